-- The messages that are integers.
use Rattle.std.specs.Prelude.{◌≡◌, ℤ, FitsSigned}
use Rattle.std.specs.Int.{w64}
use Rattle.tp_value.specs.declared.types.Ty.TheVariants as ty
use Rattle.tp_value.specs.declared.message.Message.{Message}
use Rattle.tp_value.specs.declared.value.Value.TheVariants as value

-- the message is this integer, of 64 signed bits, under the type `integer`
abbrev pub IsInteger : Message → ℤ → Type 0
IsInteger m z = (m.ty ≡ ty.Integer) × (m.value ≡ value.Int z) × FitsSigned w64 z
