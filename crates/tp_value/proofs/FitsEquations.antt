-- The equations of `Fits`.
use Rattle.std.proofs.Common.{◌≡◌, ℤ, true, List, [], ◌∷◌, Option, Some, None, map, refl, ap, sym, ◌∙◌, ◌⊎◌}
use Rattle.tp_value.specs.declared.types.Ty.{Ty}
use Rattle.tp_value.specs.declared.types.Ty.TheVariants as ty
use Rattle.tp_value.specs.declared.types.TypeDef.{TypeDef}
use Rattle.tp_value.specs.declared.types.TypeDef.TheVariants as def
use Rattle.tp_value.specs.declared.types.Types.{Types}
use Rattle.tp_value.specs.declared.template.PatternPart.{PatternPart}
use Rattle.tp_value.specs.declared.template.Template.{Template}
use Rattle.tp_value.specs.declared.template.Template.TheVariants as o
use Rattle.tp_value.specs.declared.template.Template.TheOpen as t
use Rattle.tp_value.specs.declared.template.Template.TheViews.{roll-Template}
use Rattle.tp_value.specs.declared.template.Template.TheFolds.{map-Template, rec-roll-Template}
use Rattle.tp_value.specs.declared.value.Value.{Value}
use Rattle.tp_value.specs.Types.{named}
use Rattle.tp_value.specs.HasType.{AllHave, RecordHas, HasType}
use Rattle.tp_value.specs.Matches.{is_many}
use Rattle.tp_value.specs.Fits.{AreOrdered, ElementsFit, ListFits, template_fits, Fits}
use Rattle.tp_value.proofs.HasTypeEquations.{AllHave-map, RecordHas-map}

module _ {X : Type 0} (g : X → Template) (k : Template → Ty → Type 0) where
  ElementsFit-map : (u : Ty) (xs : List X) → ElementsFit (λ x. is_many (g x)) (λ p. k (g p)) u xs ≡ ElementsFit is_many k u (map g xs)
  ElementsFit-map u [] = refl
  ElementsFit-map u (x ∷ xs) = λ i. ((is_many (g x) ≡ true) ⊎ k (g x) u) × ElementsFit-map u xs i

  ListFits-map : (xs : List X) (d : Option TypeDef) → ListFits (λ x. is_many (g x)) (λ p. k (g p)) xs d ≡ ListFits is_many k (map g xs) d
  ListFits-map xs None = refl
  ListFits-map xs (Some (def.Record fs)) = refl
  ListFits-map xs (Some (def.ListOf u)) = ElementsFit-map u xs

natural : (types : Types) (X : Type 0) (g : X → Template) (k : Template → Ty → Type 0) (x : t.Template-F X)
    → template_fits types X g (λ p. k (g p)) x ≡ template_fits types Template (λ y. y) k (map-Template X Template g x)
natural types X g k (t.Exact w) = refl
natural types X g k t.Any = refl
natural types X g k t.AnyOrNone = refl
natural types X g k (t.OneOf xs) = λ i u. AllHave-map g k u xs i
natural types X g k (t.NoneOf xs) = λ i u. AllHave-map g k u xs i
natural types X g k (t.Range lo hi) = refl
natural types X g k (t.Pattern ps) = refl
natural types X g k (t.Record xs) = λ i u. RecordHas-map g k xs (named types u) i
natural types X g k (t.List xs) = λ i u. ListFits-map g k xs (named types u) i

-- one layer
fits_roll : (types : Types) (u : Ty) (x : t.Template-F Template)
    → Fits types u (roll-Template x) ≡ template_fits types Template (λ y. y) (λ w s. Fits types s w) x u
unfolding Fits
fits_roll types u x = λ i. rec-roll-Template (Ty → Type 0) (template_fits types) (natural types) x i u

module _ (types : Types) (u : Ty) where
  pub fits_exact : (w : Value) → Fits types u (o.Exact w) ≡ HasType types u w
  fits_exact w = ap (Fits types u) (sym (o.rolls-Exact w)) ∙ fits_roll types u (t.Exact w)

  pub fits_any : Fits types u o.Any ≡ Unit {0}
  fits_any = ap (Fits types u) (sym o.rolls-Any) ∙ fits_roll types u t.Any

  pub fits_many : Fits types u o.AnyOrNone ≡ ⊥
  fits_many = ap (Fits types u) (sym o.rolls-AnyOrNone) ∙ fits_roll types u t.AnyOrNone

  pub fits_one_of : (xs : List Template) → Fits types u (o.OneOf xs) ≡ AllHave (λ w s. Fits types s w) u xs
  fits_one_of xs = ap (Fits types u) (sym (o.rolls-OneOf xs)) ∙ fits_roll types u (t.OneOf xs)

  pub fits_none_of : (xs : List Template) → Fits types u (o.NoneOf xs) ≡ AllHave (λ w s. Fits types s w) u xs
  fits_none_of xs = ap (Fits types u) (sym (o.rolls-NoneOf xs)) ∙ fits_roll types u (t.NoneOf xs)

  pub fits_range : (lo hi : Option ℤ) → Fits types u (o.Range lo hi) ≡ ((u ≡ ty.Integer) × AreOrdered lo hi)
  fits_range lo hi = ap (Fits types u) (sym (o.rolls-Range lo hi)) ∙ fits_roll types u (t.Range lo hi)

  pub fits_pattern : (ps : List PatternPart) → Fits types u (o.Pattern ps) ≡ (u ≡ ty.Charstring)
  fits_pattern ps = ap (Fits types u) (sym (o.rolls-Pattern ps)) ∙ fits_roll types u (t.Pattern ps)

  pub fits_record : (xs : List Template) → Fits types u (o.Record xs) ≡ RecordHas (λ w s. Fits types s w) xs (named types u)
  fits_record xs = ap (Fits types u) (sym (o.rolls-Record xs)) ∙ fits_roll types u (t.Record xs)

  pub fits_list : (xs : List Template) → Fits types u (o.List xs) ≡ ListFits is_many (λ w s. Fits types s w) xs (named types u)
  fits_list xs = ap (Fits types u) (sym (o.rolls-List xs)) ∙ fits_roll types u (t.List xs)
