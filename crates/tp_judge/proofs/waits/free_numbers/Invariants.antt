-- The numbers so far that wait for nothing.
use Rattle.tp_judge.proofs.FreeNumbersBelowBound.{IsFreeBelow}
use Rattle.tp_judge.proofs.waits.free_numbers.Given as goal

abbrev pub invariant-loop-x : goal.invariant-loop-x
invariant-loop-x l = IsFreeBelow l.waits l.order.items l.x
