-- Where numbers stand in a list once one more is put at its end.
use Rattle.std.proofs.Common.{◌≡◌, ◌⊎◌, inl, inr, ℕ, zero, suc, ◌<◌, List, [], ◌∷◌, ◌++◌, length, refl, sym, ap, ◌∙◌}
use Rattle.std.proofs.lemmas.Option.{same_Some, slice_get_within}
use Rattle.tp_judge.specs.Order.{IsNumberAt}

pub stands_within : (xs : List ℕ) (i x : ℕ) → IsNumberAt xs i x → i < length xs
stands_within xs i x at = slice_get_within xs i x at

-- one number stands at a place
pub stands_same : (xs : List ℕ) (i x y : ℕ) → IsNumberAt xs i x → IsNumberAt xs i y → x ≡ y
stands_same xs i x y one two = same_Some x y (sym one ∙ two)

-- what stood in the list stands there still
pub stands_still : (xs : List ℕ) (y i x : ℕ) → IsNumberAt xs i x → IsNumberAt (xs ++ y ∷ []) i x
stands_still [] y i x at = absurd (cc)
stands_still (z ∷ xs) y zero x at = at
stands_still (z ∷ xs) y (suc i) x at = stands_still xs y i x at

-- the new one stands last
pub stands_last : (xs : List ℕ) (y : ℕ) → IsNumberAt (xs ++ y ∷ []) (length xs) y
stands_last [] y = refl
stands_last (z ∷ xs) y = stands_last xs y

-- and there is no other one
pub stands_cases : (xs : List ℕ) (y i x : ℕ) → IsNumberAt (xs ++ y ∷ []) i x
    → IsNumberAt xs i x ⊎ ((i ≡ length xs) × (x ≡ y))
stands_cases [] y zero x at = inr (refl, sym (same_Some y x at))
stands_cases [] y (suc i) x at = absurd (cc)
stands_cases (z ∷ xs) y zero x at = inl at
stands_cases (z ∷ xs) y (suc i) x at = elim (stands_cases xs y i x at) [
  | inl old ↦ inl old
  | inr new ↦ inr (ap (λ n. suc n) new.0, new.1)
]
