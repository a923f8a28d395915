-- The text of the entries that are left, one after the other.
use Rattle.std.proofs.Common.{◌≡◌, ℕ, zero, suc, ◌+◌, List, [], ◌∷◌, ◌++◌, take, refl, ap, sym, ◌∙◌, arith, append_assoc}
use Rattle.std.specs.Prelude.{slice_get}
use Rattle.std.specs.List.{flat_map}
use Rattle.std.specs.Option.{option_to_list}
use Rattle.std.proofs.lemmas.Grind.{flat_map-append}

take_next : {X : Type 0} (q : List X) (place : ℕ) → take (place + 1) q ≡ take place q ++ option_to_list (slice_get q place)
take_next [] zero = refl
take_next {X} [] (suc n) = let e : suc n + 1 ≡ suc (n + 1) = omega arith in ap (λ k. take {A = X} k []) e
take_next (x ∷ q) zero = refl
take_next (x ∷ q) (suc n) = let e : suc n + 1 ≡ suc (n + 1) = omega arith in ap (λ k. take k (x ∷ q)) e ∙ ap (λ l. x ∷ l) (take_next q n)

pub text_next : {X : Type 0} (entry : X → List ℕ) (q : List X) (place : ℕ) (start old new : List ℕ)
    → old ≡ start ++ flat_map entry (take place q) → new ≡ old ++ flat_map entry (option_to_list (slice_get q place))
    → new ≡ start ++ flat_map entry (take (place + 1) q)
text_next entry q place start old new e f =
    f ∙ ap (λ o. o ++ flat_map entry (option_to_list (slice_get q place))) e
    ∙ append_assoc start (flat_map entry (take place q)) (flat_map entry (option_to_list (slice_get q place)))
    ∙ ap (λ l. start ++ l)
    (sym (ap (flat_map entry) (take_next q place) ∙ flat_map-append entry (take place q) (option_to_list (slice_get q place))))
