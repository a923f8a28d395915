-- The demands that have one number first are taken off, from the last to the first.
use Rattle.std.proofs.Common.{◌≡◌, inl, inr, ℕ, ◌+◌, ◌-◌, ◌<◌, ◌≤◌, Bool, true, false, List, [], ◌∷◌, ◌++◌, length, set}
use Rattle.std.proofs.Common.{refl, sym, subst, ◌∙◌, ap, slice_index, sum, arith}
use Rattle.std.proofs.lemmas.Bool.{cases_eq, cases_lt}
use Rattle.std.proofs.lemmas.List.{length-set}
use Rattle.std.proofs.lemmas.List.Sums.{sum_by-set}
use Rattle.tp_judge.specs.declared.demand.Demand.{Demand}
use Rattle.tp_judge.specs.Places.{before_at, after_at}
use Rattle.tp_judge.specs.Order.{IsNumberAt}
use Rattle.tp_judge.specs.Chains.{IsLast}
use Rattle.tp_judge.specs.Progress.{IsBegun, IsOrderedUpTo}
use Rattle.tp_judge.proofs.NumberPlaceGrowth.{stands_same, stands_within, stands_still, stands_last, stands_cases}
use Rattle.tp_judge.proofs.FreeNumberGrowth.{free_still, free_more}
use Rattle.tp_judge.proofs.WaitsAfterDemandRemoval.{without, without_other, without_true, without_false, waits_some}
use Rattle.tp_judge.proofs.WaitsAfterDemandRemoval.{waits_none, waits_less}

-- the demands that are left are those whose first number isn't among the first `done` of the list,
-- but for those that have `x` first and stand at the place `at` or after it
pub record IsPassing (demands : List Demand) (order : List ℕ) (left : ℕ → Bool) (done x at : ℕ)
    : Type 0 where
  pub here : IsNumberAt order done x
  pub within : at ≤ length demands
  pub last : (k : ℕ) → at ≡ k + 1 → before_at demands k ≡ x
  pub taken : (k : ℕ) → k < length demands → left k ≡ false
      → (j : ℕ) × (j ≤ done) × IsNumberAt order j (before_at demands k)
  pub kept : (k j : ℕ) → k < length demands → left k ≡ true → j < done
      → IsNumberAt order j (before_at demands k) → ⊥
  pub passed : (k : ℕ) → k < length demands → left k ≡ true → before_at demands k ≡ x → k < at
  pub coming : (k : ℕ) → k < at → before_at demands k ≡ x → left k ≡ true

-- how far the demands that have `x` first are taken off
pub record IsTaking (demands : List Demand) (waits order : List ℕ) (done x at : ℕ) : Type 0 where
  pub left : ℕ → Bool
  pub begun : IsBegun demands left waits order
  pub passing : IsPassing demands order left done x at

-- at last all are
pub taking_ends : (demands : List Demand) (waits order : List ℕ) (done x at : ℕ) → IsTaking demands waits order done x at
    → at ≡ 0 → IsOrderedUpTo demands waits order (done + 1)
taking_ends demands waits order done x at was end = record {
  left = was.left;
  begun = was.begun;
  taken = λ k low gone. let t = was.passing.taken k low gone in (t.0, omega (arith, t.1), t.2);
  kept = λ k j low stays less stands. elim (cases_eq j done) [
    | inl same ↦
        let first : before_at demands k ≡ x = stands_same order done (before_at demands k) x (subst (λ i. IsNumberAt order i (before_at demands k)) same stands) was.passing.here in
        let past = was.passing.passed k low stays first in
        omega (arith, past, end)
    | inr other ↦ was.passing.kept k j low stays (omega (arith, less, other)) stands
  ];
}

-- one more demand is taken off
passing_less : (demands : List Demand) (order : List ℕ) (left : ℕ → Bool) (done x k p : ℕ)
    → IsPassing demands order left done x (k + 1) → IsLast demands (before_at demands k) k p
    → IsPassing demands order (without left k) done x p
passing_less demands order left done x k p was next =
    let first : before_at demands k ≡ x = was.last k refl in
    let low : k < length demands = let w = was.within in omega (arith, w) in
    record {
      here = was.here;
      within = let w = next.within in omega (arith, w, low);
      last = λ j is. next.here j is ∙ first;
      taken = λ j less gone. elim (without_false left k j gone) [
        | inl old ↦ was.taken j less old
        | inr same ↦ (done, omega arith, subst (λ y. IsNumberAt order done y) (sym (ap (before_at demands) same ∙ first)) was.here)
      ];
      kept = λ j i less stays before stands. was.kept j i less (without_true left k j stays).0 before stands;
      passed = λ j less stays is.
          let parts = without_true left k j stays in
          let upto = was.passed j less parts.0 is in
          let other : j ≡ k → ⊥ = parts.1 in
          elim (cases_lt j p) [
            | inl before ↦ before
            | inr past ↦ absurd (next.none j past (omega (arith, upto, other)) (is ∙ sym first))
          ];
      coming = λ j less is.
          let w = next.within in
          let other : j ≡ k → ⊥ = λ e. omega (arith, w, less, e) in
          without_other left k j other ∙ was.coming j (omega (arith, w, less)) is;
    }

-- a number is put at the end of the list
passing_more : (demands : List Demand) (order : List ℕ) (left : ℕ → Bool) (done x at t : ℕ)
    → IsPassing demands order left done x at → IsPassing demands (order ++ t ∷ []) left done x at
passing_more demands order left done x at t was = record {
  here = stands_still order t done x was.here;
  within = was.within;
  last = was.last;
  taken = λ k low gone. let s = was.taken k low gone in (s.0, s.1, stands_still order t s.0 (before_at demands k) s.2);
  kept = λ k j low stays less stands. elim (stands_cases order t j (before_at demands k) stands) [
    | inl old ↦ was.kept k j low stays less old
    | inr new ↦ let size = stands_within order done x was.here in omega (arith, size, less, new.0)
  ];
  passed = was.passed;
  coming = was.coming;
}

-- the number that the demand has second waits for others still
pub taking_still : (demands : List Demand) (waits order : List ℕ) (done x k p v : ℕ) → IsTaking demands waits order done x (k + 1)
    → after_at demands k < length waits → IsLast demands (before_at demands k) k p
    → slice_index waits (after_at demands k) ≡ v + 1 → 0 < v
    → IsTaking demands (set waits (after_at demands k) v) order done x p
taking_still demands waits order done x k p v was small next is more =
    let t = after_at demands k in
    let low : k < length demands = let w = was.passing.within in omega (arith, w) in
    let here : was.left k ≡ true = was.passing.coming k (omega arith) (was.passing.last k refl) in
    record {
      left = without was.left k;
      begun = record {
        waits_are = waits_less demands was.left waits k v was.begun.waits_are low here small is;
        free = free_still waits order t v was.begun.free small (omega (arith, is)) more;
        met = was.begun.met;
      };
      passing = passing_less demands order was.left done x k p was.passing next;
    }

taking_zero : (demands : List Demand) (waits order : List ℕ) (done x k p : ℕ) → IsTaking demands waits order done x (k + 1)
    → after_at demands k < length waits → IsLast demands (before_at demands k) k p
    → slice_index waits (after_at demands k) ≡ 1
    → IsTaking demands (set waits (after_at demands k) 0) (order ++ after_at demands k ∷ []) done x p
taking_zero demands waits order done x k p was small next is =
    let t = after_at demands k in
    let low : k < length demands = let w = was.passing.within in omega (arith, w) in
    let here : was.left k ≡ true = was.passing.coming k (omega arith) (was.passing.last k refl) in
    let are = waits_less demands was.left waits k 0 was.begun.waits_are low here small (omega (arith, is)) in
    let free = free_more waits order t was.begun.free small (omega (arith, is)) in
    let passing = passing_less demands order was.left done x k p was.passing next in
    record {
      left = without was.left k;
      begun = record {
        waits_are = are;
        free = free;
        met = λ j i less stands. elim (stands_cases order t i (after_at demands j) stands) [
          | inl old ↦
              let m = was.begun.met j i less old in
              (m.0, m.1, stands_still order t m.0 (before_at demands j) m.2)
          | inr new ↦
              let size : t < length (set waits t 0) = let same = length-set waits t 0 in omega (arith, same, small) in
              let zero = free.free (length order) t (stands_last order t) in
              let gone = waits_none demands (without was.left k) (set waits t 0) j t are less size zero new.1 in
              let s = passing.taken j less gone in
              let in_list = stands_within order done x was.passing.here in
              (s.0, omega (arith, s.1, in_list, new.0), stands_still order t s.0 (before_at demands j) s.2)
        ];
      };
      passing = passing_more demands order (without was.left k) done x p t passing;
    }

-- it waits for none, and is put at the end of the list
pub taking_more : (demands : List Demand) (waits order : List ℕ) (done x k p v : ℕ) → IsTaking demands waits order done x (k + 1)
    → after_at demands k < length waits → IsLast demands (before_at demands k) k p
    → slice_index waits (after_at demands k) ≡ v + 1 → v ≡ 0
    → IsTaking demands (set waits (after_at demands k) v) (order ++ after_at demands k ∷ []) done x p
taking_more demands waits order done x k p v was small next is none =
    let P : ℕ → Type 0 = λ n. IsTaking demands (set waits (after_at demands k) n) (order ++ after_at demands k ∷ []) done x p in
    subst P (sym none) (taking_zero demands waits order done x k p was small next (omega (arith, is, none)))

-- the number that the next demand has second waits
pub taking_some : (demands : List Demand) (waits order : List ℕ) (done x k : ℕ) → IsTaking demands waits order done x (k + 1)
    → after_at demands k < length waits → 0 < slice_index waits (after_at demands k)
taking_some demands waits order done x k was small =
    let low : k < length demands = let w = was.passing.within in omega (arith, w) in
    let here : was.left k ≡ true = was.passing.coming k (omega arith) (was.passing.last k refl) in
    waits_some demands was.left waits k was.begun.waits_are low here small

-- the place before `at`, where there is one
pub taking_at : (demands : List Demand) (waits order : List ℕ) (done x at : ℕ) → IsTaking demands waits order done x at
    → 0 < at → IsTaking demands waits order done x (at - 1 + 1)
taking_at demands waits order done x at was some =
    let P : ℕ → Type 0 = λ n. IsTaking demands waits order done x n in
    let e : at ≡ at - 1 + 1 = omega arith in
    subst P e was

-- the two tables together fall by one
pub waits_fall : (waits : List ℕ) (t : ℕ) → t < length waits → 0 < slice_index waits t
    → sum (set waits t (slice_index waits t - 1)) + 1 ≡ sum waits
waits_fall waits t low some = let e = sum_by-set (λ (x : ℕ). x) waits t (slice_index waits t - 1) 0 low in omega (arith, e, some)
