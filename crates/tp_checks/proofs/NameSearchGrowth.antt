-- Where a name stands.
use Rattle.std.proofs.Common.{option_map, ◌⊎◌, inl, inr, ◌≡◌, ◌≢◌, ℕ, ◌+◌, ◌<◌, ◌≤◌, true, false, List, map, length, Some, slice_get, sym, ap, ◌∙◌, arith, true≢false}
use Rattle.std.proofs.{lemmas.Slice.Eq.bytes_eq-Decides, lemmas.Bool.cases_lt, lemmas.List.length-map}
use Rattle.std.proofs.lemmas.Option.{slice_get-map, slice_get_within, same_Some}
use Rattle.std.specs.Str.{bytes_eq}
use Rattle.tp_checks.specs.Named.{IsPlace, IsAbsent}

abbrev pub Before : List (List ℕ) → List ℕ → ℕ → Type 0
Before names name i = (j : ℕ) → j < i → slice_get names j ≢ Some name

module _ {A : Type 0} (f : A → List ℕ) (xs : List A) (name : List ℕ) where
  pub one_more : (i : ℕ) (x : A) → slice_get xs i ≡ Some x → bytes_eq (f x) name ≡ false → Before (map f xs) name i → Before (map f xs) name (i + 1)
  one_more i x there unlike before j below same = by (cases_lt j i) where
    by : (j < i) ⊎ (i ≤ j) → ⊥
    by (inl earlier) = before j earlier same
    by (inr later) =
        let at : j ≡ i = omega arith in
        let text : slice_get (map f xs) i ≡ Some (f x) = slice_get-map f xs i ∙ ap (λ o. option_map f o) there in
        let equal : f x ≡ name = same_Some (f x) name (sym text ∙ ap (slice_get (map f xs)) (sym at) ∙ same) in
        true≢false (sym ((bytes_eq-Decides (f x) name).1 equal) ∙ unlike)

  pub found : (i : ℕ) (x : A) → slice_get xs i ≡ Some x → bytes_eq (f x) name ≡ true → Before (map f xs) name i → IsPlace (map f xs) name i
  found i x there alike before =
      let same : f x ≡ name = (bytes_eq-Decides (f x) name).0 alike in
      record { there = slice_get-map f xs i ∙ ap (λ o. option_map f o) there ∙ ap Some same; first = before }

  pub nowhere : (i : ℕ) → length xs ≤ i → Before (map f xs) name i → IsAbsent (map f xs) name
  nowhere i le before j same =
      let below : j < length (map f xs) = slice_get_within (map f xs) j name same in
      before j (omega (arith, below, length-map xs f)) same
