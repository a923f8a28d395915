-- The demands so far are chained.
use Rattle.std.proofs.Common.{◌≡◌, ℕ, ◌<◌, length, slice_index}
use Rattle.tp_judge.specs.Chains.{IsLast}
use Rattle.tp_judge.specs.Places.{before_at}
use Rattle.tp_judge.proofs.chains.chain.Given as goal

abbrev pub invariant-loop-k : goal.invariant-loop-k
invariant-loop-k l = record {
  size : length l.last.items ≡ l.count;
  previous_size : length l.previous.items ≡ l.k;
  last_is : (x : ℕ) → x < l.count → IsLast l.demands x l.k (slice_index l.last.items x);
  previous_is : (j : ℕ) → j < l.k → IsLast l.demands (before_at l.demands j) j (slice_index l.previous.items j);
}
