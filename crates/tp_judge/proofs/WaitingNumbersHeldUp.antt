-- The numbers that wait, from each to one that is wanted before it.
use Rattle.std.proofs.Common.{◌≡◌, inl, inr, ℕ, ◌+◌, ◌<◌, ◌≤◌, List, length, set, sym, subst, ◌∙◌, ap, slice_index}
use Rattle.std.proofs.Common.{arith}
use Rattle.std.proofs.lemmas.Bool.{cases_eq}
use Rattle.std.proofs.lemmas.List.{get_or-set_same, get_or-set_other}
use Rattle.std.proofs.lemmas.List.Elements.{Contains-get_or}
use Rattle.tp_judge.specs.declared.demand.Demand.{Demand}
use Rattle.tp_judge.specs.Places.{no_demand, before_at, after_at}
use Rattle.tp_judge.specs.Circle.{IsDemandedBefore}
use Rattle.tp_judge.specs.AfterOrdering.{IsWaiting, AreStuck, HoldsUp, AreHeldUp}

-- what the demand at a place wants
pub wanted_at : (demands : List Demand) (k : ℕ) → k < length demands → IsDemandedBefore demands (before_at demands k) (after_at demands k)
wanted_at demands k low = Contains-get_or demands k no_demand low

-- so far the table has, for what a demand wants second, a number that holds it up
abbrev pub AreHeld : List Demand → List ℕ → List ℕ → ℕ → Type 0
AreHeld demands waits from n = (k : ℕ) → k < n → IsWaiting waits (before_at demands k)
    → HoldsUp demands waits (slice_index from (after_at demands k)) (after_at demands k)

-- the next demand is for a number that waits
pub held_set : (demands : List Demand) (waits from : List ℕ) (n : ℕ) → AreHeld demands waits from n → n < length demands
    → after_at demands n < length from → IsWaiting waits (before_at demands n)
    → AreHeld demands waits (set from (after_at demands n) (before_at demands n)) (n + 1)
held_set demands waits from n was low small here = λ k less waits_too.
    let t = after_at demands n in
    let x = before_at demands n in
    elim (cases_eq (after_at demands k) t) [
      | inl same ↦
          let now : slice_index (set from t x) (after_at demands k) ≡ x = ap (λ y. slice_index (set from t x) y) same ∙ get_or-set_same from t x 0 small in
          let Q : ℕ → Type 0 = λ y. HoldsUp demands waits y (after_at demands k) in
          let R : ℕ → Type 0 = λ z. HoldsUp demands waits x z in
          subst Q (sym now) (subst R (sym same) (here, wanted_at demands n low))
      | inr other ↦
          let before : k < n = elim (cases_eq k n) [
            | inl at ↦ absurd (other (ap (after_at demands) at))
            | inr apart ↦ omega (arith, less, apart)
          ] in
          let Q : ℕ → Type 0 = λ y. HoldsUp demands waits y (after_at demands k) in
          subst Q (sym (get_or-set_other from t (after_at demands k) x 0 other)) (was k before waits_too)
    ]

-- it is for one that doesn't
pub held_skip : (demands : List Demand) (waits from : List ℕ) (n : ℕ) → AreHeld demands waits from n
    → slice_index waits (before_at demands n) ≤ 0 → AreHeld demands waits from (n + 1)
held_skip demands waits from n was none = λ k less here. elim (cases_eq k n) [
  | inl same ↦
      let e : slice_index waits (before_at demands k) ≡ slice_index waits (before_at demands n) = ap (λ i. slice_index waits (before_at demands i)) same in
      absurd (omega (arith, e, none, here.1))
  | inr other ↦ was k (omega (arith, less, other)) here
]

-- with all demands looked at, each number that waits is held up
pub held_all : (demands : List Demand) (waits from : List ℕ) (n : ℕ) → length demands ≤ n → AreHeld demands waits from n
    → AreStuck demands (IsWaiting waits) → AreHeldUp demands waits from
held_all demands waits from n all was stuck = λ x here.
    let k = stuck x here in
    let P : ℕ → Type 0 = λ y. HoldsUp demands waits (slice_index from y) y in
    let low = k.1 in
    subst P k.2 (was k.0 (omega (arith, low, all)) k.3)
