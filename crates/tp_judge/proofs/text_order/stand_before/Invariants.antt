-- The pairs so far stand so.
use Rattle.tp_judge.specs.LinesByNumber.{lines_at}
use Rattle.tp_judge.proofs.TextOrderWithoutCircle.{StandBelow}
use Rattle.tp_judge.proofs.text_order.stand_before.Given as goal

abbrev pub invariant-loop-place : goal.invariant-loop-place
invariant-loop-place l = StandBelow (lines_at l.before) (lines_at l.after) l.place
