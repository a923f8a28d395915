-- The state after which no more numbers can be put in order.
use Rattle.std.specs.Prelude.{◌≡◌, ℕ, ◌<◌, ◌≤◌, List, length, slice_index}
use Rattle.tp_judge.specs.declared.demand.Demand.{Demand}
use Rattle.tp_judge.specs.Circle.{IsDemandedBefore}
use Rattle.tp_judge.specs.Places.{before_at, after_at}
use Rattle.tp_judge.specs.Progress.{IsOrderedUpTo}

-- the demands whose first number is in the list are taken off, and no others
pub record IsEnded (count : ℕ) (demands : List Demand) (waits order : List ℕ) : Type 0 where
  pub size : length waits ≡ count
  pub done : ℕ
  pub is_done : IsOrderedUpTo demands waits order done
  pub all : length order ≤ done

-- the number waits for a demand
abbrev pub IsWaiting : List ℕ → ℕ → Type 0
IsWaiting waits x = (x < length waits) × (0 < slice_index waits x)

-- for each number with P there is a demand that a number with P comes before it
abbrev pub AreStuck : List Demand → (ℕ → Type 0) → Type 0
AreStuck demands P = (x : ℕ) → P x
    → (k : ℕ) × (k < length demands) × (after_at demands k ≡ x) × P (before_at demands k)

-- the first number waits, and a demand says that it comes before the second
abbrev pub HoldsUp : List Demand → List ℕ → ℕ → ℕ → Type 0
HoldsUp demands waits x y = IsWaiting waits x × IsDemandedBefore demands x y

-- for each number that waits, the table has one that waits too, and that comes before it by a demand
abbrev pub AreHeldUp : List Demand → List ℕ → List ℕ → Type 0
AreHeldUp demands waits from =
    (x : ℕ) → IsWaiting waits x → HoldsUp demands waits (slice_index from x) x
