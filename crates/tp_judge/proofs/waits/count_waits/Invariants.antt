-- The demands so far are counted.
use Rattle.std.proofs.Common.{◌≡◌, ◌==◌, ℕ, ◌<◌, ◌≤◌, length, slice_index}
use Rattle.tp_judge.specs.Counts.{count_below}
use Rattle.tp_judge.specs.Places.{after_at}
use Rattle.tp_judge.proofs.waits.count_waits.Given as goal

abbrev pub invariant-loop-demand : goal.invariant-loop-demand
invariant-loop-demand l = record {
  size : length l.waits.items ≡ l.count;
  low : (x : ℕ) → x < l.count → slice_index l.waits.items x ≤ l.demand-index;
  each : (x : ℕ) → x < l.count → slice_index l.waits.items x ≡ count_below (λ k. after_at l.demands k == x) l.demand-index;
}
