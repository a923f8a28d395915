-- A number that waits for one demand less.
use Rattle.std.proofs.Common.{◌≡◌, ◌≢◌, inl, inr, ℕ, ◌<◌, List, [], ◌∷◌, ◌++◌, length, set, sym, subst, ◌∙◌, ap}
use Rattle.std.proofs.Common.{slice_index, arith}
use Rattle.std.proofs.lemmas.Bool.{cases_eq}
use Rattle.std.proofs.lemmas.List.{length-set, get_or-set_same, get_or-set_other}
use Rattle.tp_judge.specs.Order.{IsNumberAt}
use Rattle.tp_judge.specs.Progress.{AreFree}
use Rattle.tp_judge.proofs.NumberPlaceGrowth.{stands_still, stands_last, stands_cases}

-- it waits for others still
pub free_still : (waits order : List ℕ) (t v : ℕ) → AreFree waits order → t < length waits
    → 0 < slice_index waits t → 0 < v → AreFree (set waits t v) order
free_still waits order t v was low some more = record {
  below = λ i x at. let size = length-set waits t v in let less = was.below i x at in omega (arith, size, less);
  once = was.once;
  free = λ i x at.
      let none = was.free i x at in
      let other : x ≢ t = λ e. let same : slice_index waits x ≡ slice_index waits t = ap (λ y. slice_index waits y) e in omega (arith, same, none) in
      get_or-set_other waits t x v 0 other ∙ none;
  listed = λ x less none.
      let size = length-set waits t v in
      let here = get_or-set_same waits t v 0 low in
      let other : x ≢ t = λ e. let same : slice_index (set waits t v) x ≡ slice_index (set waits t v) t = ap (λ y. slice_index (set waits t v) y) e in omega (arith, same, here, none) in
      was.listed x (omega (arith, size, less)) (sym (get_or-set_other waits t x v 0 other) ∙ none);
}

-- it waits for none, and is put at the end of the list
pub free_more : (waits order : List ℕ) (t : ℕ) → AreFree waits order → t < length waits
    → 0 < slice_index waits t → AreFree (set waits t 0) (order ++ t ∷ [])
free_more waits order t was low some =
    let size = length-set waits t 0 in
    let here = get_or-set_same waits t 0 0 low in
    let unlisted : (i : ℕ) → IsNumberAt order i t → ⊥ = λ i at. let none = was.free i t at in omega (arith, none) in
    record {
      below = λ i x at. elim (stands_cases order t i x at) [
        | inl old ↦ let less = was.below i x old in omega (arith, size, less)
        | inr new ↦ omega (arith, size, new.1)
      ];
      once = λ i j x one two. elim (stands_cases order t i x one) [
        | inl old ↦ elim (stands_cases order t j x two) [
          | inl old2 ↦ was.once i j x old old2
          | inr new2 ↦ absurd (unlisted i (subst (λ y. IsNumberAt order i y) new2.1 old))
        ]
        | inr new ↦ elim (stands_cases order t j x two) [
          | inl old2 ↦ absurd (unlisted j (subst (λ y. IsNumberAt order j y) new.1 old2))
          | inr new2 ↦ new.0 ∙ sym new2.0
        ]
      ];
      free = λ i x at. elim (stands_cases order t i x at) [
        | inl old ↦
            let none = was.free i x old in
            let other : x ≢ t = λ e. unlisted i (subst (λ y. IsNumberAt order i y) e old) in
            get_or-set_other waits t x 0 0 other ∙ none
        | inr new ↦ ap (λ y. slice_index (set waits t 0) y) new.1 ∙ here
      ];
      listed = λ x less none. elim (cases_eq x t) [
        | inl same ↦ (length order, subst (λ y. IsNumberAt (order ++ t ∷ []) (length order) y) (sym same) (stands_last order t))
        | inr other ↦
            let old = was.listed x (omega (arith, size, less)) (sym (get_or-set_other waits t x 0 0 other) ∙ none) in
            (old.0, stands_still order t old.0 x old.1)
      ];
    }
