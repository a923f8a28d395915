-- A type that a list has.
use Rattle.std.proofs.Common.{◌≡◌, true, List, Contains, refl, sym, ap, ◌∙◌}
use Rattle.std.proofs.{lemmas.Bool.Decides.Decides-eqb, lemmas.List.Folds.list_any_at, lemmas.Map.Views.Contains-from_any}
use Rattle.std.specs.List.{list_any}
use Rattle.tp_value.specs.declared.types.Ty.{Ty}
use Rattle.tp_value.specs.declared.types.Ty.TheVariants.{Integer, Boolean, Charstring, Named}
use Rattle.tp_config.specs.Types.{same_type}

same_is : (x y : Ty) → same_type x y ≡ true → x ≡ y
same_is Integer Integer e = refl
same_is Boolean Boolean e = refl
same_is Charstring Charstring e = refl
same_is (Named m) (Named n) e = ap Named ((Decides-eqb m n).0 e)
same_is _ _ e = absurd (cc)

is_same : (x : Ty) → same_type x x ≡ true
is_same Integer = refl
is_same Boolean = refl
is_same Charstring = refl
is_same (Named n) = (Decides-eqb n n).1 refl

pub listed : (types : List Ty) (ty : Ty) → list_any (λ other. same_type other ty) types ≡ true → Contains types ty
listed types ty e = Contains-from_any {eq = λ x y. same_type y x} (λ x y h. sym (same_is y x h)) ty types e

pub unlisted : (types : List Ty) (ty : Ty) → Contains types ty → list_any (λ other. same_type other ty) types ≡ true
unlisted types ty (k, below, is) = list_any_at (λ other. same_type other ty) types k ty below (ap (λ other. same_type other ty) is ∙ is_same ty)
