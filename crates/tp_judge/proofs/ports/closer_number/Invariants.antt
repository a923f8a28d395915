-- None so far says that the component ended.
use Rattle.tp_judge.specs.LinesByNumber.{lines_at}
use Rattle.tp_judge.specs.Lawful.{IsNoEndBefore}
use Rattle.tp_judge.proofs.ports.closer_number.Given as goal

abbrev pub invariant-loop-line : goal.invariant-loop-line
invariant-loop-line l = IsNoEndBefore (lines_at l.closing) l.line-index
