-- Two lists, item by item.
use Rattle.std.proofs.Common.{◌≡◌, ℕ, zero, suc, ◌+◌, Some, List, [], ◌∷◌, ◌++◌, length, take, drop, slice_get, All}
use Rattle.std.proofs.Common.{refl, ap, sym, ◌∙◌, subst, arith, add-one}
use Rattle.std.specs.List.{AllZip}
use Rattle.std.proofs.lemmas.Option.{same_Some}
use Rattle.std.proofs.lemmas.List.Elements.{All-nil, All-cons, All-head, All-tail}

pub zip_push : {A B : Type 0} (R : A → B → Type 0) (xs : List A) (ys : List B) (x : A) (y : B) → AllZip R xs ys → R x y → AllZip R (xs ++ x ∷ []) (ys ++ y ∷ [])
zip_push R [] [] x y z r = (r, tt)
zip_push R [] (b ∷ ys) x y z r = absurd z
zip_push R (a ∷ xs) [] x y z r = absurd z
zip_push R (a ∷ xs) (b ∷ ys) x y z r = (z.0, zip_push R xs ys x y z.1 r)

pub zip_weaker : {A B : Type 0} (R S : A → B → Type 0) → ((x : A) (y : B) → R x y → S x y) → (xs : List A) (ys : List B) → AllZip R xs ys → AllZip S xs ys
zip_weaker R S f [] [] z = tt
zip_weaker R S f [] (b ∷ ys) z = absurd z
zip_weaker R S f (a ∷ xs) [] z = absurd z
zip_weaker R S f (a ∷ xs) (b ∷ ys) z = (f a b z.0, zip_weaker R S f xs ys z.1)

-- what stands beside what stands at a place
pub zip_get : {A B : Type 0} (R : A → B → Type 0) (xs : List A) (ys : List B) (k : ℕ) (x : A) → AllZip R xs ys → slice_get xs k ≡ Some x
    → (y : B) × (slice_get ys k ≡ Some y) × R x y
zip_get R [] ys k x z e = absurd (cc)
zip_get R (a ∷ xs) [] k x z e = absurd z
zip_get R (a ∷ xs) (b ∷ ys) zero x z e =
    (b, refl, subst (λ c. R c b) (same_Some a x e) z.0)
zip_get R (a ∷ xs) (b ∷ ys) (suc k) x z e = zip_get R xs ys k x z.1 e

-- what holds of each of the others
pub zip_all : {A B : Type 0} (R : A → B → Type 0) (Q : A → Type 0) (P : B → Type 0) → ((x : A) (y : B) → R x y → Q x → P y)
    → (xs : List A) (ys : List B) → AllZip R xs ys → All Q xs → All P ys
zip_all R Q P f [] [] z q = All-nil P
zip_all R Q P f [] (b ∷ ys) z q = absurd z
zip_all R Q P f (a ∷ xs) [] z q = absurd z
zip_all R Q P f (a ∷ xs) (b ∷ ys) z q = All-cons P b ys (f a b z.0 (All-head Q a xs q)) (zip_all R Q P f xs ys z.1 (All-tail Q a xs q))

pub zip_length : {A B : Type 0} (R : A → B → Type 0) (xs : List A) (ys : List B) → AllZip R xs ys → length ys ≡ length xs
zip_length R [] [] z = refl
zip_length R [] (b ∷ ys) z = absurd z
zip_length R (a ∷ xs) [] z = absurd z
zip_length R (a ∷ xs) (b ∷ ys) z = omega (arith, zip_length R xs ys z.1)

take_step : {X : Type 0} (xs : List X) (k : ℕ) (x : X) → slice_get xs k ≡ Some x → take (suc k) xs ≡ take k xs ++ x ∷ []
take_step [] k x e = absurd (cc)
take_step (a ∷ xs) zero x e = ap (λ b. b ∷ []) (same_Some a x e)
take_step (a ∷ xs) (suc k) x e = ap (λ l. a ∷ l) (take_step xs k x e)

-- the first items, with the next
pub take_next : {X : Type 0} (xs : List X) (k : ℕ) (x : X) → slice_get xs k ≡ Some x → take (k + 1) xs ≡ take k xs ++ x ∷ []
take_next xs k x e = ap (λ n. take n xs) (add-one k) ∙ take_step xs k x e

drop_step : {X : Type 0} (xs : List X) (k : ℕ) (x : X) → slice_get xs k ≡ Some x → drop k xs ≡ x ∷ drop (suc k) xs
drop_step [] k x e = absurd (cc)
drop_step (a ∷ xs) zero x e = ap (λ b. b ∷ xs) (same_Some a x e)
drop_step (a ∷ xs) (suc k) x e = drop_step xs k x e

-- the last items, from this one on
pub drop_here : {X : Type 0} (xs : List X) (k : ℕ) (x : X) → slice_get xs k ≡ Some x → drop k xs ≡ x ∷ drop (k + 1) xs
drop_here xs k x e = drop_step xs k x e ∙ ap (λ n. x ∷ drop n xs) (sym (add-one k))

pub zip_next : {A B : Type 0} (R : A → B → Type 0) (xs : List A) (ys : List B) (k : ℕ) (x : A) (y : B) → slice_get xs k ≡ Some x
    → AllZip R (take k xs) ys → R x y → AllZip R (take (k + 1) xs) (ys ++ y ∷ [])
zip_next R xs ys k x y e z r =
    subst (λ l. AllZip R l (ys ++ y ∷ [])) (sym (take_next xs k x e)) (zip_push R (take k xs) ys x y z r)
