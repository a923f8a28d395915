-- What came so far was sent there.
use Rattle.tp_judge.specs.LinesByNumber.{lines_at}
use Rattle.tp_judge.specs.Delivered.{AgreesBelow}
use Rattle.tp_judge.proofs.routes.first_difference.Given as goal

abbrev pub invariant-loop-place : goal.invariant-loop-place
invariant-loop-place l = AgreesBelow (lines_at l.sent) (lines_at l.came) l.place
