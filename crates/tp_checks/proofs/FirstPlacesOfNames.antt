-- The first place of a name, and none.
use Rattle.std.proofs.Common.{◌≡◌, ◌≢◌, ℕ, ◌≤◌, ◌<◌, Bool, true, false, cond, List, Some, None, length, get_or, slice_get, position, nat_lt, refl, ap, sym, ◌∙◌, arith, true≢false}
use Rattle.std.proofs.{lemmas.List.Quantifiers.position-Some, lemmas.List.Sums.fails_before_first, lemmas.Slice.Eq.bytes_eq-Decides}
use Rattle.std.proofs.lemmas.Option.{slice_get-get_or, slice_get_within, get_or_from_slice_get}
use Rattle.std.specs.{List.position_or_len, Str.bytes_eq}
use Rattle.tp_checks.specs.Named.{IsPlace, IsAbsent}

-- the name does not stand before the place that was found
module _ (names : List (List ℕ)) (name : List ℕ) where
  pub position_is_place : (k : ℕ) → Some k ≡ position (bytes_eq name) names → IsPlace names name k
  position_is_place k e =
      let p = position-Some (bytes_eq name) names k name (sym e) in
      record {
        there = slice_get-get_or names k name p.0 ∙ ap (λ (x : List ℕ). Some x) (sym ((bytes_eq-Decides name (get_or names k name)).0 p.1));
        first = λ j below same. before j below same;
      }
    where
      at : (n : ℕ) → (b : Bool) → nat_lt n (length names) ≡ b → Some k ≡ cond b (Some n) None → k ≡ n
      at n true f e = cc
      at n false f e = absurd (elim (none_is_none e) [ ]) where
        none_is_none : ◌≡◌ (Some k) None → ⊥
        none_is_none h = cc

      place : k ≡ position_or_len (bytes_eq name) names
      place = at (position_or_len (bytes_eq name) names) (nat_lt (position_or_len (bytes_eq name) names) (length names)) refl e

      before : (j : ℕ) → j < k → slice_get names j ≢ Some name
      before j below same =
          let other : bytes_eq name (get_or names j name) ≡ false = fails_before_first (bytes_eq name) names j name (omega (arith, place)) in
          let here : get_or names j name ≡ name = get_or_from_slice_get names j name name same in
          true≢false (sym ((bytes_eq-Decides name (get_or names j name)).1 (sym here)) ∙ other)

  pub position_is_nowhere : None ≡ position (bytes_eq name) names → IsAbsent names name
  position_is_nowhere e j same =
      let within : j < length names = slice_get_within names j name same in
      let equal : get_or names j name ≡ name = get_or_from_slice_get names j name name same in
      let here : bytes_eq name (get_or names j name) ≡ true = (bytes_eq-Decides name (get_or names j name)).1 (sym equal) in
      by (nat_lt (position_or_len (bytes_eq name) names) (length names)) refl e here within
    where
      by : (b : Bool) → nat_lt (position_or_len (bytes_eq name) names) (length names) ≡ b
          → None ≡ cond b (Some (position_or_len (bytes_eq name) names)) None → bytes_eq name (get_or names j name) ≡ true → j < length names → ⊥
      by true f none here within = cc
      by false f none here within =
          let past : length names ≤ position_or_len (bytes_eq name) names = grind (arith, f) in
          let other : bytes_eq name (get_or names j name) ≡ false = fails_before_first (bytes_eq name) names j name (omega (arith, past)) in
          true≢false (sym here ∙ other)
