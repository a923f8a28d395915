-- The lines of the definition of broken values, as rules on values that are known by an equation.
use Rattle.std.proofs.Common.{◌≡◌, List, Option, None, Some, Bor, refl}
use Rattle.std.specs.Option.{option_copied}
use Rattle.tp_value.specs.declared.types.{Field.Field, TypeDef.TypeDef}
use Rattle.tp_value.specs.declared.types.TypeDef.TheVariants as def

-- a definition that was looked up, and is that of a record
pub record_behind : (o : Option (Bor TypeDef)) (fs : List Field) → option_copied o ≡ Some (def.Record fs)
    → (d : Bor TypeDef) × (o ≡ Some d) × (d.now ≡ def.Record fs)
record_behind None fs e = absurd (cc)
record_behind (Some d) fs e = (d, refl, cc)
