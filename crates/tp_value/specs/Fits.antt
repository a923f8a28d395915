-- Which templates fit which type.
use Rattle.std.specs.Prelude.{◌≡◌, ℤ, ◌≤ℤ◌, Bool, true, List, [], ◌∷◌, Option, Some, None, ◌⊎◌}
use Rattle.tp_value.specs.declared.types.Ty.{Ty}
use Rattle.tp_value.specs.declared.types.Ty.TheVariants as ty
use Rattle.tp_value.specs.declared.types.TypeDef.{TypeDef}
use Rattle.tp_value.specs.declared.types.TypeDef.TheVariants as type_def
use Rattle.tp_value.specs.declared.types.Types.{Types}
use Rattle.tp_value.specs.declared.template.Template.{Template}
use Rattle.tp_value.specs.declared.template.Template.TheOpen as t
use Rattle.tp_value.specs.declared.template.Template.TheFolds.{rec-Template}
use Rattle.tp_value.specs.Types.{named}
use Rattle.tp_value.specs.HasType.{AllHave, RecordHas, HasType}
use Rattle.tp_value.specs.Matches.{is_many}

-- the lower bound is at most the upper, if both are given
abbrev pub AreOrdered : Option ℤ → Option ℤ → Type 0
AreOrdered (Some lo) (Some hi) = lo ≤ℤ hi
AreOrdered (Some lo) None = Unit {0}
AreOrdered None hi = Unit {0}

-- each is `*` or fits the type
abbrev pub ElementsFit : {X : Type 0} → (X → Bool) → (X → Ty → Type 0) → Ty → List X → Type 0
ElementsFit many fits t [] = Unit {0}
ElementsFit many fits t (x ∷ xs) = ((many x ≡ true) ⊎ fits x t) × ElementsFit many fits t xs

-- the definition is a record of, and the elements fit its type
abbrev pub ListFits : {X : Type 0} → (X → Bool) → (X → Ty → Type 0) → List X → Option TypeDef → Type 0
ListFits many fits xs (Some (type_def.ListOf t)) = ElementsFit many fits t xs
ListFits many fits xs (Some (type_def.Record fs)) = ⊥
ListFits many fits xs None = ⊥

-- the outermost layer of a template; `fits` says which types a template inside fits
abbrev pub template_fits : Types → (X : Type 0) → (X → Template) → (X → Ty → Type 0) → t.Template-F X → Ty → Type 0
template_fits types X template fits (t.Exact v) u = HasType types u v
template_fits types X template fits t.Any u = Unit {0}
template_fits types X template fits t.AnyOrNone u = ⊥
template_fits types X template fits (t.OneOf xs) u = AllHave fits u xs
template_fits types X template fits (t.NoneOf xs) u = AllHave fits u xs
template_fits types X template fits (t.Range lo hi) u = (u ≡ ty.Integer) × AreOrdered lo hi
template_fits types X template fits (t.Pattern ps) u = u ≡ ty.Charstring
template_fits types X template fits (t.Record xs) u = RecordHas fits xs (named types u)
template_fits types X template fits (t.List xs) u = ListFits (λ x. is_many (template x)) fits xs (named types u)

-- the template fits the type
unfoldable pub Fits : Types → Ty → Template → Type 0
Fits types u template = rec-Template (Ty → Type 0) (template_fits types) template u
