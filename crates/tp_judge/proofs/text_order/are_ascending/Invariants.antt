-- The lines so far ascend, and the next number is above theirs.
use Rattle.tp_judge.proofs.TextOrderWithoutCircle.{AscendUpTo}
use Rattle.tp_judge.proofs.text_order.are_ascending.Given as goal

abbrev pub invariant-loop-line : goal.invariant-loop-line
invariant-loop-line l = AscendUpTo l.lines l.line-index l.next
