-- The entries that have been placed, and one more.
use Rattle.std.proofs.Common.{◌⊎◌, inl, inr, ◌≡◌, ◌≢◌, ℕ, ◌<◌, ◌≤◌, Bool, true, List, [], ◌∷◌, ◌++◌, length, Some, slice_get, slice_set, get_or, Contains, sym, ap, ◌∙◌, arith, subst}
use Rattle.std.proofs.{Math.Seq.get_or-append_seam, lemmas.Bool.cases_lt}
use Rattle.std.proofs.lemmas.List.{get_or_append_left, get_or-set_other, length-set, length_push}
use Rattle.std.proofs.lemmas.List.Elements.{Contains-push, Contains-append_left}
use Rattle.std.proofs.lemmas.Option.{slice_get-get_or, slice_get_within, get_or_from_slice_get}

-- an element of a list with one more after it
pub push_cases : {A : Type 0} (xs : List A) (y : A) (i : ℕ) (k : A) → slice_get (xs ++ y ∷ []) i ≡ Some k
    → (slice_get xs i ≡ Some k) ⊎ ((i ≡ length xs) × (k ≡ y))
push_cases xs y i k there = by (cases_lt i (length xs)) where
  read : get_or (xs ++ y ∷ []) i k ≡ k
  read = get_or_from_slice_get (xs ++ y ∷ []) i k k there

  by : (i < length xs) ⊎ (length xs ≤ i) → (slice_get xs i ≡ Some k) ⊎ ((i ≡ length xs) × (k ≡ y))
  by (inl lt) = inl (slice_get-get_or xs i k lt ∙ ap Some (sym (get_or_append_left xs (y ∷ []) k i lt) ∙ read))
  by (inr le) =
      let within : i < length (xs ++ y ∷ []) = slice_get_within (xs ++ y ∷ []) i k there in
      let at : i ≡ length xs = omega (arith, le, within, length_push xs y) in
      inr (at, sym read ∙ ap (λ n. get_or (xs ++ y ∷ []) n k) at ∙ get_or-append_seam xs y [] k)

-- what holds of each place, and of one more
pub pairs_more : (fs ns : List (List ℕ)) (places : List ℕ) (p : ℕ) → slice_get fs p ≡ slice_get ns (length places)
    → ((i k : ℕ) → slice_get places i ≡ Some k → slice_get fs k ≡ slice_get ns i) → (i k : ℕ) → slice_get (places ++ p ∷ []) i ≡ Some k
    → slice_get fs k ≡ slice_get ns i
pairs_more fs ns places p here before i k there = by (push_cases places p i k there) where
  by : (slice_get places i ≡ Some k) ⊎ ((i ≡ length places) × (k ≡ p)) → slice_get fs k ≡ slice_get ns i
  by (inl earlier) = before i k earlier
  by (inr (at, is)) = ap (slice_get fs) is ∙ here ∙ ap (slice_get ns) (sym at)

-- a place that was taken stands among them
pub taken_more : (taken : List Bool) (places : List ℕ) (p : ℕ) → ((k : ℕ) → slice_get taken k ≡ Some true → Contains places k)
    → (k : ℕ) → slice_get (slice_set taken p true) k ≡ Some true → Contains (places ++ p ∷ []) k
taken_more taken places p before k there = by (cases_lt k p) (cases_lt p k) where
  other : k ≢ p → Contains (places ++ p ∷ []) k
  other differ =
      let within : k < length (slice_set taken p true) = slice_get_within (slice_set taken p true) k true there in
      let inside : k < length taken = omega (arith, within, length-set taken p true) in
      let read : get_or (slice_set taken p true) k true ≡ true = get_or_from_slice_get (slice_set taken p true) k true true there in
      Contains-append_left places (p ∷ []) k
      (before k (slice_get-get_or taken k true inside ∙ ap Some (sym (get_or-set_other taken p k true true differ) ∙ read)))

  by : (k < p) ⊎ (p ≤ k) → (p < k) ⊎ (k ≤ p) → Contains (places ++ p ∷ []) k
  by (inl below) after = other (omega arith)
  by (inr le) (inl above) = other (omega arith)
  by (inr le) (inr ge) =
      let same : p ≡ k = omega arith in
      subst (λ n. Contains (places ++ p ∷ []) n) same (Contains-push places p)
