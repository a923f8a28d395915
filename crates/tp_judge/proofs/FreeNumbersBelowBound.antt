-- The numbers below a bound that wait for nothing, in a list.
use Rattle.std.proofs.Common.{◌≡◌, ℕ, ◌<◌, List, slice_index}
use Rattle.tp_judge.specs.Order.{IsNumberAt}

-- the list has each number below the bound that waits for nothing, once, and no other
pub record IsFreeBelow (waits order : List ℕ) (bound : ℕ) : Type 0 where
  pub below : (i x : ℕ) → IsNumberAt order i x → x < bound
  pub once : (i j x : ℕ) → IsNumberAt order i x → IsNumberAt order j x → i ≡ j
  pub free : (i x : ℕ) → IsNumberAt order i x → slice_index waits x ≡ 0
  pub listed : (x : ℕ) → x < bound → slice_index waits x ≡ 0 → (i : ℕ) × IsNumberAt order i x
