-- As many names as there are different ones, and each of these among them: then none stands twice, and each is one of them.
use Rattle.std.proofs.Common.{◌⊎◌, inl, inr, ◌≡◌, ◌≢◌, ℕ, suc, ◌+◌, ◌-◌, ◌<◌, ◌≤◌, List, [], ◌∷◌, length, get_or, Contains, All, AllPairs, sym, ap, ◌∙◌, arith}
use Rattle.std.proofs.{lemmas.Bool.cases_lt, lemmas.List.get_or_default}
use Rattle.std.proofs.lemmas.List.Edits.{length-remove, get_or-remove_below, get_or-remove_above}
use Rattle.std.specs.List.{remove}

module _ {A : Type 0} where
  -- what stands at another place stands among the others
  stays : (xs : List A) (n k : ℕ) (x : A) → n < length xs → k < length xs → get_or xs k x ≡ x → k ≢ n → Contains (remove xs n) x
  stays xs n k x within below is differ = by (cases_lt k n) where
    by : (k < n) ⊎ (n ≤ k) → Contains (remove xs n) x
    by (inl before) = (k, omega (arith, length-remove xs n within), get_or-remove_below xs n x k before within ∙ is)
    by (inr behind) =
        let next : k - 1 + 1 ≡ k = omega arith in
        (k - 1, omega (arith, length-remove xs n within), get_or-remove_above xs n x (k - 1) (omega arith) within ∙ ap (λ m. get_or xs m x) next ∙ is)

  -- different ones of some are at most as many
  pub fewer : (xs ys : List A) → AllPairs (λ a b. a ≢ b) xs → All (Contains ys) xs → length xs ≤ length ys
  fewer [] ys apart each = omega arith
  fewer (x ∷ xs) ys apart each =
      let here : Contains ys x = each 0 x (omega arith) in
      let rest : All (Contains (remove ys here.0)) xs = λ i d below. other i d below here (each (suc i) d (omega arith)) in
      let less : length xs ≤ length (remove ys here.0) = fewer xs (remove ys here.0) (λ i j d before below. apart (suc i) (suc j) d (omega arith) (omega arith)) rest in
      omega (arith, less, length-remove ys here.0 here.1)
    where
      other : (i : ℕ) (d : A) → i < length xs → (here : Contains ys x) → Contains ys (get_or xs i d) → Contains (remove ys here.0) (get_or xs i d)
      other i d below here there =
          stays ys here.0 there.0 (get_or xs i d) here.1 there.1 there.2
          (λ same. apart 0 (suc i) d (omega arith) (omega arith)
          (sym here.2 ∙ get_or_default ys here.0 x (get_or xs i d) here.1 ∙ ap (λ m. get_or ys m (get_or xs i d)) (sym same) ∙ there.2))

  module _ (few many : List A) (apart : AllPairs (λ a b. a ≢ b) few) (as_many : length many ≡ length few) (each : All (Contains many) few) where
    -- each of the many is one of the few
    pub none_other : (i : ℕ) (d : A) → i < length many → (Contains few (get_or many i d) → ⊥) → ⊥
    none_other i d below absent =
        let less : length few ≤ length (remove many i) = fewer few (remove many i) apart (λ k e within. other k e within (each k e within)) in
        omega (arith, less, length-remove many i below)
      where
        other : (k : ℕ) (e : A) → k < length few → Contains many (get_or few k e) → Contains (remove many i) (get_or few k e)
        other k e within there =
            stays many i there.0 (get_or few k e) below there.1 there.2
            (λ same. absent (
              k,
              within,
              get_or_default few k (get_or many i d) e within ∙ sym there.2 ∙ ap (λ m. get_or many m (get_or few k e)) same
                  ∙ get_or_default many i (get_or few k e) d below,
            ))

    -- none of the many stands twice
    pub none_twice : (i j : ℕ) (d : A) → i < length many → j < length many → i ≢ j → get_or many i d ≡ get_or many j d → ⊥
    none_twice i j d i_below j_below differ same =
        let less : length few ≤ length (remove many j) = fewer few (remove many j) apart (λ k e within. other k e (each k e within)) in
        omega (arith, less, length-remove many j j_below)
      where
        other : (k : ℕ) (e : A) → Contains many (get_or few k e) → Contains (remove many j) (get_or few k e)
        other k e there = by (cases_lt there.0 j) (cases_lt j there.0) where
          by : (there.0 < j) ⊎ (j ≤ there.0) → (j < there.0) ⊎ (there.0 ≤ j) → Contains (remove many j) (get_or few k e)
          by (inl lt) after = stays many j there.0 (get_or few k e) j_below there.1 there.2 (omega arith)
          by (inr le) (inl gt) = stays many j there.0 (get_or few k e) j_below there.1 there.2 (omega arith)
          by (inr le) (inr ge) =
              let at : j ≡ there.0 = omega arith in
              stays many j i (get_or few k e) j_below i_below
              (get_or_default many i (get_or few k e) d i_below ∙ same ∙ get_or_default many j d (get_or few k e) j_below
              ∙ ap (λ m. get_or many m (get_or few k e)) at ∙ there.2)
              differ
