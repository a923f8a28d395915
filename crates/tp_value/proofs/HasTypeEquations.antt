-- The equations of `HasType`.
use Rattle.std.proofs.Common.{◌≡◌, ℕ, ℤ, Bool, List, [], ◌∷◌, Option, Some, None, map, length, suc, refl, ap, sym, ◌∙◌, FitsSigned, w64}
use Rattle.tp_value.specs.declared.types.Ty.{Ty}
use Rattle.tp_value.specs.declared.types.Ty.TheVariants as ty
use Rattle.tp_value.specs.declared.types.Field.{Field}
use Rattle.tp_value.specs.declared.types.TypeDef.{TypeDef}
use Rattle.tp_value.specs.declared.types.TypeDef.TheVariants as def
use Rattle.tp_value.specs.declared.types.Types.{Types}
use Rattle.tp_value.specs.declared.value.Value.{Value}
use Rattle.tp_value.specs.declared.value.Value.TheVariants as o
use Rattle.tp_value.specs.declared.value.Value.TheOpen as v
use Rattle.tp_value.specs.declared.value.Value.TheViews.{roll-Value}
use Rattle.tp_value.specs.declared.value.Value.TheFolds.{map-Value, rec-roll-Value}
use Rattle.tp_value.specs.Types.{named}
use Rattle.tp_value.specs.HasType.{ArePrintable, AllHave, FieldsHave, RecordHas, ListHas, value_has, HasType}

module _ {X Y : Type 0} (g : X → Y) (k : Y → Ty → Type 0) where
  pub AllHave-map : (t : Ty) (xs : List X) → AllHave (λ p. k (g p)) t xs ≡ AllHave k t (map g xs)
  AllHave-map t [] = refl
  AllHave-map t (x ∷ xs) = λ i. k (g x) t × AllHave-map t xs i

  FieldsHave-map : (fs : List Field) (xs : List X) → FieldsHave (λ p. k (g p)) fs xs ≡ FieldsHave k fs (map g xs)
  FieldsHave-map [] [] = refl
  FieldsHave-map [] (x ∷ xs) = refl
  FieldsHave-map (f ∷ fs) [] = refl
  FieldsHave-map (f ∷ fs) (x ∷ xs) = λ i. k (g x) f.ty × FieldsHave-map fs xs i

  pub RecordHas-map : (xs : List X) (d : Option TypeDef) → RecordHas (λ p. k (g p)) xs d ≡ RecordHas k (map g xs) d
  RecordHas-map xs None = refl
  RecordHas-map xs (Some (def.Record fs)) = FieldsHave-map fs xs
  RecordHas-map xs (Some (def.ListOf t)) = refl

  ListHas-map : (xs : List X) (d : Option TypeDef) → ListHas (λ p. k (g p)) xs d ≡ ListHas k (map g xs) d
  ListHas-map xs None = refl
  ListHas-map xs (Some (def.Record fs)) = refl
  ListHas-map xs (Some (def.ListOf t)) = AllHave-map t xs

natural : (types : Types) (X : Type 0) (g : X → Value) (k : Value → Ty → Type 0) (x : v.Value-F X)
    → value_has types X g (λ p. k (g p)) x ≡ value_has types Value (λ y. y) k (map-Value X Value g x)
natural types X g k (v.Int z) = refl
natural types X g k (v.Bool b) = refl
natural types X g k (v.Text cs) = refl
natural types X g k (v.Record xs) = λ i t. RecordHas-map g k xs (named types t) i
natural types X g k (v.List xs) = λ i t. ListHas-map g k xs (named types t) i

-- one layer
pub has_roll : (types : Types) (t : Ty) (x : v.Value-F Value) → HasType types t (roll-Value x) ≡ value_has types Value (λ y. y) (λ w u. HasType types u w) x t
unfolding HasType
has_roll types t x = λ i. rec-roll-Value (Ty → Type 0) (value_has types) (natural types) x i t

pub has_int : (types : Types) (t : Ty) (z : ℤ) → HasType types t (o.Int z) ≡ ((t ≡ ty.Integer) × FitsSigned w64 z)
has_int types t z = ap (HasType types t) (sym (o.rolls-Int z)) ∙ has_roll types t (v.Int z)

pub has_bool : (types : Types) (t : Ty) (b : Bool) → HasType types t (o.Bool b) ≡ (t ≡ ty.Boolean)
has_bool types t b = ap (HasType types t) (sym (o.rolls-Bool b)) ∙ has_roll types t (v.Bool b)

pub has_text : (types : Types) (t : Ty) (cs : List ℕ) → HasType types t (o.Text cs) ≡ ((t ≡ ty.Charstring) × ArePrintable cs)
has_text types t cs = ap (HasType types t) (sym (o.rolls-Text cs)) ∙ has_roll types t (v.Text cs)

pub has_record : (types : Types) (t : Ty) (xs : List Value) → HasType types t (o.Record xs) ≡ RecordHas (λ w u. HasType types u w) xs (named types t)
has_record types t xs = ap (HasType types t) (sym (o.rolls-Record xs)) ∙ has_roll types t (v.Record xs)

pub has_list : (types : Types) (t : Ty) (xs : List Value) → HasType types t (o.List xs) ≡ ListHas (λ w u. HasType types u w) xs (named types t)
has_list types t xs = ap (HasType types t) (sym (o.rolls-List xs)) ∙ has_roll types t (v.List xs)

pub FieldsHave-length : {X : Type 0} (k : X → Ty → Type 0) (fs : List Field) (xs : List X) → FieldsHave k fs xs → length fs ≡ length xs
FieldsHave-length k [] [] h = refl
FieldsHave-length k [] (x ∷ xs) h = absurd h
FieldsHave-length k (f ∷ fs) [] h = absurd h
FieldsHave-length k (f ∷ fs) (x ∷ xs) h = ap suc (FieldsHave-length k fs xs h.1)
