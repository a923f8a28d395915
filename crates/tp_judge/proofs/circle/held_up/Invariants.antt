-- The demands so far were looked at.
use Rattle.std.proofs.Common.{◌≡◌, length}
use Rattle.tp_judge.proofs.WaitingNumbersHeldUp.{AreHeld}
use Rattle.tp_judge.proofs.circle.held_up.Given as goal

abbrev pub invariant-loop-demand : goal.invariant-loop-demand
invariant-loop-demand l = record {
  size : length l.from.items ≡ length l.waits;
  held : AreHeld l.demands l.waits l.from.items l.demand-index;
}
