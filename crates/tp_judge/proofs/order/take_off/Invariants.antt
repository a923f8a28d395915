-- The demands from the place `at` on are taken off.
use Rattle.std.proofs.Common.{◌+◌, ◌≤◌, length, sum, slice_index}
use Rattle.tp_judge.proofs.DemandRemovalSteps.{IsTaking}
use Rattle.tp_judge.proofs.order.take_off.Given as goal

abbrev pub invariant-loop-at : goal.invariant-loop-at
invariant-loop-at l = record {
  taking : IsTaking l.demands l.waits l.order.items l.done (slice_index l.initial.order.items l.done) l.at;
  falls : sum l.waits + length l.order.items ≤ sum l.initial.waits + length l.initial.order.items;
}

abbrev pub decreases-loop-at : goal.decreases-loop-at
decreases-loop-at l = l.at
