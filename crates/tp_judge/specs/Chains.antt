-- The demands with the same first number, as a chain: the last of them, and for each the one before it.
use Rattle.std.specs.Prelude.{◌≡◌, ℕ, ◌+◌, ◌<◌, ◌≤◌, List, length, slice_index}
use Rattle.tp_judge.specs.declared.demand.Demand.{Demand}
use Rattle.tp_judge.specs.Places.{before_at}

-- `p` is one more than the last place before `end` of a demand whose first number is x, or 0 if there is none
pub record IsLast (demands : List Demand) (x end p : ℕ) : Type 0 where
  pub within : p ≤ end
  pub here : (k : ℕ) → p ≡ k + 1 → before_at demands k ≡ x
  pub none : (k : ℕ) → p ≤ k → k < end → before_at demands k ≡ x → ⊥

-- for each number, the last demand with this first number; for each demand, the one before it in its chain
pub record AreChains (demands : List Demand) (last previous : List ℕ) : Type 0 where
  pub size : length previous ≡ length demands
  pub last_is : (x : ℕ) → x < length last
      → IsLast demands x (length demands) (slice_index last x)
  pub previous_is : (k : ℕ) → k < length demands
      → IsLast demands (before_at demands k) k (slice_index previous k)
