-- How far the numbers are put in order.
use Rattle.std.specs.Prelude.{◌≡◌, ℕ, ◌<◌, Bool, true, false, List, length, slice_index}
use Rattle.tp_judge.specs.declared.demand.Demand.{Demand}
use Rattle.tp_judge.specs.Places.{before_at, after_at}
use Rattle.tp_judge.specs.Order.{IsNumberAt}
use Rattle.tp_judge.specs.Counts.{AreWaits}

-- the list has each number of the table that waits for nothing, once, and no other
pub record AreFree (waits order : List ℕ) : Type 0 where
  pub below : (i x : ℕ) → IsNumberAt order i x → x < length waits
  pub once : (i j x : ℕ) → IsNumberAt order i x → IsNumberAt order j x → i ≡ j
  pub free : (i x : ℕ) → IsNumberAt order i x → slice_index waits x ≡ 0
  pub listed : (x : ℕ) → x < length waits → slice_index waits x ≡ 0 → (i : ℕ) × IsNumberAt order i x

-- before each number of the list are all numbers that come before it by a demand
abbrev pub AreMet : List Demand → List ℕ → Type 0
AreMet demands order = (k i : ℕ) → k < length demands → IsNumberAt order i (after_at demands k)
    → (j : ℕ) × (j < i) × IsNumberAt order j (before_at demands k)

-- with these demands left, the list has the numbers that wait for none of them
pub record IsBegun (demands : List Demand) (left : ℕ → Bool) (waits order : List ℕ)
    : Type 0 where
  pub waits_are : AreWaits demands left waits
  pub free : AreFree waits order
  pub met : AreMet demands order

-- left are the demands whose first number isn't among the first `done` of the list
pub record IsOrderedUpTo (demands : List Demand) (waits order : List ℕ) (done : ℕ) : Type 0 where
  pub left : ℕ → Bool
  pub begun : IsBegun demands left waits order
  pub taken : (k : ℕ) → k < length demands → left k ≡ false
      → (j : ℕ) × (j < done) × IsNumberAt order j (before_at demands k)
  pub kept : (k j : ℕ) → k < length demands → left k ≡ true → j < done
      → IsNumberAt order j (before_at demands k) → ⊥
