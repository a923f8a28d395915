-- Message types: their equality, as a test, and lists of them.
use Rattle.std.specs.Prelude.{◌≡◌, Bool, true, false, ◌==◌, List, [], Option}
use Rattle.std.specs.List.{list_any}
use Rattle.std.specs.Option.{option_map_or}
use Rattle.tp_value.specs.declared.types.Ty.{Ty}
use Rattle.tp_value.specs.declared.types.Ty.TheVariants.{Integer, Boolean, Charstring, Named}

-- whether the two are the same type
abbrev pub same_type : Ty → Ty → Bool
same_type Integer Integer = true
same_type Boolean Boolean = true
same_type Charstring Charstring = true
same_type (Named x) (Named y) = x == y
same_type _ _ = false

-- each type is in both of the lists, or in neither
abbrev pub HaveSame : List Ty → List Ty → Type 0
HaveSame xs ys = (ty : Ty) → list_any (λ other. same_type other ty) xs ≡ list_any (λ other. same_type other ty) ys

-- the types of the list, or none if there is no list
abbrev pub listed_types : Option (List Ty) → List Ty
listed_types o = option_map_or (λ (types : List Ty). types) o []
