-- What is left at the first ports is written, and what is kept is the text of what it is of.
use Rattle.tp_common.specs.Watching.{Writes}
use Rattle.tp_report.specs.Lines.{left_below}
use Rattle.tp_report.specs.LineOpenings.{HaveTheirTexts}
use Rattle.tp_report.proofs.left.write_left.Given as goal

abbrev pub invariant-loop-place : goal.invariant-loop-place
invariant-loop-place g l =
    Writes g.W.Write.contents l.initial.out l.out (left_below l.test_case l.desk l.place)
    × HaveTheirTexts l.test_case.config l.kept
