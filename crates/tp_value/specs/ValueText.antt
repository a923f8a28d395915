-- The text of a value.
use Rattle.std.specs.Prelude.{ℕ, Bool, true, false, List, [], ◌∷◌, ◌++◌, Option, Some, None, codes, nat_eq}
use Rattle.std.specs.Prelude.{if◌then◌else◌}
use Rattle.std.specs.Fmt.{signed_decimal}
use Rattle.std.specs.List.{flat_map}
use Rattle.tp_value.specs.declared.types.Ty.{Ty}
use Rattle.tp_value.specs.declared.types.Field.{Field}
use Rattle.tp_value.specs.declared.types.TypeDef.{TypeDef}
use Rattle.tp_value.specs.declared.types.TypeDef.TheVariants as type_def
use Rattle.tp_value.specs.declared.types.Types.{Types}
use Rattle.tp_value.specs.declared.value.Value.{Value}
use Rattle.tp_value.specs.declared.value.Value.TheOpen as v
use Rattle.tp_value.specs.declared.value.Value.TheFolds.{fold-Value}
use Rattle.tp_value.specs.Types.{named}

-- a boolean
abbrev pub bool_text : Bool → List ℕ
bool_text true = codes "true"
bool_text false = codes "false"

-- a quote is written twice, every other character once
abbrev pub quote_doubled : ℕ → List ℕ
quote_doubled c = if nat_eq c 34 then codes "\"\"" else c ∷ []

-- the characters between the quotes
abbrev pub escaped : List ℕ → List ℕ
escaped cs = flat_map quote_doubled cs

-- a charstring, in quotes
abbrev pub quoted : List ℕ → List ℕ
quoted cs = codes "\"" ++ (escaped cs ++ codes "\"")

-- each after a comma and a space
abbrev pub more : List (List ℕ) → List ℕ
more [] = []
more (x ∷ xs) = codes ", " ++ (x ++ more xs)

-- one after another, with a comma and a space between two
abbrev pub comma_separated : List (List ℕ) → List ℕ
comma_separated [] = []
comma_separated (x ∷ xs) = x ++ more xs

-- the same in braces
abbrev pub braced_text : List (List ℕ) → List ℕ
braced_text xs = codes "{" ++ (comma_separated xs ++ codes "}")

-- each field's name and value, in declared order; `text` gives the text of a value inside
abbrev pub field_texts : {X : Type 0} → (X → Ty → List ℕ) → List Field → List X → List (List ℕ)
field_texts text (f ∷ fs) (x ∷ xs) = (f.name ++ (codes " := " ++ text x f.ty)) ∷ field_texts text fs xs
field_texts text [] xs = []
field_texts text (f ∷ fs) [] = []

-- each element
abbrev pub element_texts : {X : Type 0} → (X → Ty → List ℕ) → Ty → List X → List (List ℕ)
element_texts text t [] = []
element_texts text t (x ∷ xs) = text x t ∷ element_texts text t xs

-- a record; the text is empty if the type isn't a record type
abbrev pub record_text : {X : Type 0} → (X → Ty → List ℕ) → List X → Option TypeDef → List ℕ
record_text text xs (Some (type_def.Record fs)) = braced_text (field_texts text fs xs)
record_text text xs (Some (type_def.ListOf t)) = []
record_text text xs None = []

-- a record of; the text is empty if the type isn't a record-of type
abbrev pub list_text : {X : Type 0} → (X → Ty → List ℕ) → List X → Option TypeDef → List ℕ
list_text text xs (Some (type_def.Record fs)) = []
list_text text xs (Some (type_def.ListOf t)) = braced_text (element_texts text t xs)
list_text text xs None = []

-- the outermost layer of a value, with the texts of the values inside
abbrev pub text_of : Types → v.Value-F (Ty → List ℕ) → Ty → List ℕ
text_of types (v.Int z) t = signed_decimal z
text_of types (v.Bool b) t = bool_text b
text_of types (v.Text cs) t = quoted cs
text_of types (v.Record xs) t = record_text (λ text. text) xs (named types t)
text_of types (v.List xs) t = list_text (λ text. text) xs (named types t)

-- the text of a value of the type
unfoldable pub value_text : Types → Ty → Value → List ℕ
value_text types t v = fold-Value (Ty → List ℕ) (text_of types) v t
