-- A list has the same types among others as the list of its types, each once.
use Rattle.std.proofs.Common.{◌≡◌, false, List, [], ◌∷◌, sym, ◌∙◌}
use Rattle.std.specs.Prelude.{All, Contains}
use Rattle.std.specs.Bool.{one_answer}
use Rattle.std.specs.List.{IsDistinct, AllByRecursion}
use Rattle.std.proofs.lemmas.Bool.Decides.{Decides-like}
use Rattle.std.proofs.lemmas.List.Elements.{All-contains, All-contains_itself}
use Rattle.tp_value.specs.declared.types.Ty.{Ty}
use Rattle.tp_value.specs.contracts.types.TyPartialEq.TheImpl.{eq-value}
use Rattle.tp_config.specs.Types.{HaveSame, same_type}
use Rattle.tp_config.specs.Tests.{are_among}
use Rattle.tp_config.proofs.CreateTestsDecideCauses.{among_decides, contains_by, type_decides}
use Rattle.tp_config.proofs.TypeSetMembership.{alike}

stands_in : (xs ys : List Ty) → HaveSame xs ys → (ty : Ty) → Contains xs ty → Contains ys ty
stands_in xs ys same ty h =
    (contains_by same_type type_decides ys ty).0 (sym (same ty) ∙ (contains_by same_type type_decides xs ty).1 h)

holds_of : (P : Ty → Type 0) (xs ys : List Ty) → HaveSame xs ys → All P ys → All P xs
holds_of P xs ys same all = λ k d below. All-contains P ys _ all (stands_in xs ys same _ (All-contains_itself xs k d below))

-- two lists with the same types are both among others, or none is
pub among_alike : (xs ys zs : List Ty) → HaveSame xs ys → are_among xs zs ≡ are_among ys zs
among_alike xs ys zs same =
    one_answer (are_among xs zs) (are_among ys zs) (among_decides xs zs)
    (Decides-like (are_among ys zs) (holds_of (Contains zs) xs ys same) (holds_of (Contains zs) ys xs (λ ty. sym (same ty)))
    (among_decides ys zs))

none_alike : (x : Ty) (ys : List Ty) → AllByRecursion (λ y. eq-value.it x y ≡ false) ys → AllByRecursion (λ y. same_type x y ≡ false) ys
none_alike x [] h = h
none_alike x (y ∷ ys) h = (sym (alike x y) ∙ h.0, none_alike x ys h.1)

-- types that differ by the equality that the program computes differ
pub distinct_types : (xs : List Ty) → IsDistinct eq-value.it xs → IsDistinct same_type xs
unfolding IsDistinct
distinct_types [] h = h
distinct_types (x ∷ xs) h = (none_alike x xs h.0, distinct_types xs h.1)
