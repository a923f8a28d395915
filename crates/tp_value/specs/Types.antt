-- The named types: their names and definitions, in the order of their numbers from 0.
use Rattle.std.specs.Prelude.{ℕ, List, Option, None, map, position, slice_get}
use Rattle.std.specs.Option.{option_map}
use Rattle.std.specs.Str.{bytes_eq}
use Rattle.tp_value.specs.declared.types.Ty.{Ty}
use Rattle.tp_value.specs.declared.types.Ty.TheVariants as ty
use Rattle.tp_value.specs.declared.types.TypeDef.{TypeDef}
use Rattle.tp_value.specs.declared.types.Types.{Types}

-- the names, in the order of their numbers
abbrev pub names_of_types : Types → List (List ℕ)
names_of_types types = map (λ t. t.0) types

-- the number of the type with this name
abbrev pub type_number : Types → List ℕ → Option ℕ
type_number types name = position (bytes_eq name) (names_of_types types)

-- the definition that a type names
abbrev pub named : Types → Ty → Option TypeDef
named types (ty.Named n) = option_map (λ t. t.1) (slice_get types n)
named types ty.Integer = None
named types ty.Boolean = None
named types ty.Charstring = None
