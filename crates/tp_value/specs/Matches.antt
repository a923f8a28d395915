-- Which values match which template.
use Rattle.std.specs.Prelude.{◌≡◌, ℕ, ℤ, ◌≤ℤ◌, Bool, true, false, List, [], ◌∷◌, Option, Some, None, ◌⊎◌}
use Rattle.tp_value.specs.declared.value.Value.{Value}
use Rattle.tp_value.specs.declared.value.Value.TheOpen as v
use Rattle.tp_value.specs.declared.value.Value.TheViews.{out-Value}
use Rattle.tp_value.specs.declared.template.PatternPart.{PatternPart}
use Rattle.tp_value.specs.declared.template.PatternPart.TheVariants as pattern_part
use Rattle.tp_value.specs.declared.template.Template.{Template}
use Rattle.tp_value.specs.declared.template.Template.TheOpen as t
use Rattle.tp_value.specs.declared.template.Template.TheViews.{out-Template}
use Rattle.tp_value.specs.declared.template.Template.TheFolds.{rec-Template}
use Rattle.tp_value.specs.Cuts.{HasCut, PieceOf}

-- the part is `*`
abbrev pub is_many_part : PatternPart → Bool
is_many_part pattern_part.AnyOrNone = true
is_many_part pattern_part.One = false
is_many_part (pattern_part.Literal c) = false

-- a part that stands for one character admits this one
abbrev pub AdmitsChar : PatternPart → ℕ → Type 0
AdmitsChar (pattern_part.Literal c) d = d ≡ c
AdmitsChar pattern_part.One d = Unit {0}
AdmitsChar pattern_part.AnyOrNone d = ⊥

-- the piece is one of the part: the literal character, any one character, or any piece
abbrev pub IsTextPiece : PatternPart → List ℕ → Type 0
IsTextPiece p x = PieceOf (is_many_part p) (AdmitsChar p) x

-- the number, if the value is an integer
abbrev pub integer_in : v.Value-F Value → Option (ℤ)
integer_in (v.Int z) = Some z
integer_in (v.Bool b) = None
integer_in (v.Text cs) = None
integer_in (v.Record vs) = None
integer_in (v.List vs) = None

-- the characters, if the value is a charstring
abbrev pub charstring_in : v.Value-F Value → Option (List ℕ)
charstring_in (v.Int z) = None
charstring_in (v.Bool b) = None
charstring_in (v.Text cs) = Some cs
charstring_in (v.Record vs) = None
charstring_in (v.List vs) = None

-- the values of the fields, if the value is a record
abbrev pub fields_in : v.Value-F Value → Option (List Value)
fields_in (v.Int z) = None
fields_in (v.Bool b) = None
fields_in (v.Text cs) = None
fields_in (v.Record vs) = Some vs
fields_in (v.List vs) = None

-- the elements, if the value is a record of
abbrev pub elements_in : v.Value-F Value → Option (List Value)
elements_in (v.Int z) = None
elements_in (v.Bool b) = None
elements_in (v.Text cs) = None
elements_in (v.Record vs) = None
elements_in (v.List vs) = Some vs

-- the value is a charstring, and there is a cut of it into pieces of the parts
abbrev pub TextMatches : List PatternPart → Option (List ℕ) → Type 0
TextMatches ps (Some cs) = HasCut IsTextPiece ps cs
TextMatches ps None = ⊥

-- not below the bound, if there is one
abbrev pub AtLeast : Option ℤ → ℤ → Type 0
AtLeast None z = Unit {0}
AtLeast (Some lo) z = lo ≤ℤ z

-- not above the bound, if there is one
abbrev pub AtMost : Option ℤ → ℤ → Type 0
AtMost None z = Unit {0}
AtMost (Some hi) z = z ≤ℤ hi

-- the value is an integer within the bounds, both included
abbrev pub IsInRange : Option ℤ → Option ℤ → Option ℤ → Type 0
IsInRange lo hi (Some z) = AtLeast lo z × AtMost hi z
IsInRange lo hi None = ⊥

-- some member matches
abbrev pub SomeMatches : {X : Type 0} → (X → Value → Type 0) → List X → Value → Type 0
SomeMatches matches [] v = ⊥
SomeMatches matches (x ∷ xs) v = matches x v ⊎ SomeMatches matches xs v

-- there are as many templates as fields, and each field's template matches its value
abbrev pub FieldsMatch : {X : Type 0} → (X → Value → Type 0) → List X → List Value → Type 0
FieldsMatch matches [] [] = Unit {0}
FieldsMatch matches (x ∷ xs) (v ∷ vs) = matches x v × FieldsMatch matches xs vs
FieldsMatch matches [] (v ∷ vs) = ⊥
FieldsMatch matches (x ∷ xs) [] = ⊥

-- the value is a record, and its fields match
abbrev pub RecordMatches : {X : Type 0} → (X → Value → Type 0) → List X → Option (List Value) → Type 0
RecordMatches matches xs (Some vs) = FieldsMatch matches xs vs
RecordMatches matches xs None = ⊥

-- the outermost layer of a template is `*`
abbrev pub is_many_step : {X : Type 0} → t.Template-F X → Bool
is_many_step t.AnyOrNone = true
is_many_step (t.Exact v) = false
is_many_step t.Any = false
is_many_step (t.OneOf xs) = false
is_many_step (t.NoneOf xs) = false
is_many_step (t.Range lo hi) = false
is_many_step (t.Pattern ps) = false
is_many_step (t.Record xs) = false
is_many_step (t.List xs) = false

-- the template is `*`
abbrev pub is_many : Template → Bool
is_many t = is_many_step (out-Template t)

-- the value is a record of, and there is a cut of it: any piece for `*`, and otherwise one element that matches
abbrev pub ListMatches : {X : Type 0} → (X → Bool) → (X → Value → Type 0) → List X → Option (List Value) → Type 0
ListMatches many matches xs (Some vs) = HasCut (λ x. PieceOf (many x) (matches x)) xs vs
ListMatches many matches xs None = ⊥

-- the outermost layer of a template; `matches` says which values a template inside matches
abbrev pub template_matches : (X : Type 0) → (X → Template) → (X → Value → Type 0) → t.Template-F X → Value → Type 0
template_matches X template matches (t.Exact w) v = v ≡ w
template_matches X template matches t.Any v = Unit {0}
template_matches X template matches t.AnyOrNone v = ⊥
template_matches X template matches (t.OneOf xs) v = SomeMatches matches xs v
template_matches X template matches (t.NoneOf xs) v = SomeMatches matches xs v → ⊥
template_matches X template matches (t.Range lo hi) v = IsInRange lo hi (integer_in (out-Value v))
template_matches X template matches (t.Pattern ps) v = TextMatches ps (charstring_in (out-Value v))
template_matches X template matches (t.Record xs) v = RecordMatches matches xs (fields_in (out-Value v))
template_matches X template matches (t.List xs) v =
    ListMatches (λ x. is_many (template x)) matches xs (elements_in (out-Value v))

-- the template matches the value
unfoldable pub Matches : Template → Value → Type 0
Matches = rec-Template (Value → Type 0) template_matches
