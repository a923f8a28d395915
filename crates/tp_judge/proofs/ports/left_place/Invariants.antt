-- What is told so far is queued, at its places.
use Rattle.tp_judge.proofs.LeftMessagesByLine.{TellsFirst}
use Rattle.tp_judge.proofs.ports.left_place.Given as goal

abbrev pub invariant-loop-line : goal.invariant-loop-line
invariant-loop-line l = TellsFirst l.queue.entries l.left l.line-index l.told
