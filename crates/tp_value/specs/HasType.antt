-- Which values have which type.
use Rattle.std.specs.Prelude.{◌≡◌, ℕ, ◌≤◌, List, [], ◌∷◌, Option, Some, None, FitsSigned}
use Rattle.std.specs.Int.{w64}
use Rattle.tp_value.specs.declared.types.Ty.{Ty}
use Rattle.tp_value.specs.declared.types.Ty.TheVariants as ty
use Rattle.tp_value.specs.declared.types.Field.{Field}
use Rattle.tp_value.specs.declared.types.TypeDef.{TypeDef}
use Rattle.tp_value.specs.declared.types.TypeDef.TheVariants as type_def
use Rattle.tp_value.specs.declared.types.Types.{Types}
use Rattle.tp_value.specs.Types.{named}
use Rattle.tp_value.specs.declared.value.Value.{Value}
use Rattle.tp_value.specs.declared.value.Value.TheOpen as v
use Rattle.tp_value.specs.declared.value.Value.TheFolds.{rec-Value}

-- the characters 32 to 126
abbrev pub ArePrintable : List ℕ → Type 0
ArePrintable [] = Unit {0}
ArePrintable (c ∷ cs) = ((32 ≤ c) × (c ≤ 126)) × ArePrintable cs

-- each has the type
abbrev pub AllHave : {X : Type 0} → (X → Ty → Type 0) → Ty → List X → Type 0
AllHave has t [] = Unit {0}
AllHave has t (x ∷ xs) = has x t × AllHave has t xs

-- one value of the declared type for each field, in declared order
abbrev pub FieldsHave : {X : Type 0} → (X → Ty → Type 0) → List Field → List X → Type 0
FieldsHave has [] [] = Unit {0}
FieldsHave has (f ∷ fs) (x ∷ xs) = has x f.ty × FieldsHave has fs xs
FieldsHave has [] (x ∷ xs) = ⊥
FieldsHave has (f ∷ fs) [] = ⊥

-- the definition is a record, and the values have the types of its fields
abbrev pub RecordHas : {X : Type 0} → (X → Ty → Type 0) → List X → Option TypeDef → Type 0
RecordHas has xs (Some (type_def.Record fs)) = FieldsHave has fs xs
RecordHas has xs (Some (type_def.ListOf t)) = ⊥
RecordHas has xs None = ⊥

-- the definition is a record of, and the values have its type
abbrev pub ListHas : {X : Type 0} → (X → Ty → Type 0) → List X → Option TypeDef → Type 0
ListHas has xs (Some (type_def.Record fs)) = ⊥
ListHas has xs (Some (type_def.ListOf t)) = AllHave has t xs
ListHas has xs None = ⊥

-- the outermost layer of a value; `has` says which types a value inside has
abbrev pub value_has : Types → (X : Type 0) → (X → Value) → (X → Ty → Type 0) → v.Value-F X → Ty → Type 0
value_has types X value has (v.Int z) t = (t ≡ ty.Integer) × FitsSigned w64 z
value_has types X value has (v.Bool b) t = t ≡ ty.Boolean
value_has types X value has (v.Text cs) t = (t ≡ ty.Charstring) × ArePrintable cs
value_has types X value has (v.Record xs) t = RecordHas has xs (named types t)
value_has types X value has (v.List xs) t = ListHas has xs (named types t)

-- the value has the type
unfoldable pub HasType : Types → Ty → Value → Type 0
HasType types t v = rec-Value (Ty → Type 0) (value_has types) v t
