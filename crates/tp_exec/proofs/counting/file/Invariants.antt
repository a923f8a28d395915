-- As many routes are filed as there were turns.
use Rattle.tp_exec.proofs.RouteMessageCounts.{AreFirstFiled}
use Rattle.tp_exec.proofs.counting.file.Given as goal

abbrev pub invariant-loop-way : goal.invariant-loop-way
invariant-loop-way l = AreFirstFiled l.way l.sender l.fn.counts l.counts
