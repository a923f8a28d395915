-- The lines of the first of the queued are written.
use Rattle.std.proofs.Common.{take, codes}
use Rattle.std.specs.List.{flat_map}
use Rattle.tp_common.specs.Watching.{Writes}
use Rattle.tp_report.specs.Lines.{envelope_line}
use Rattle.tp_report.specs.LineOpenings.{HaveTheirTexts}
use Rattle.tp_report.proofs.left.write_queued.Given as goal

abbrev pub invariant-loop-place : goal.invariant-loop-place
invariant-loop-place g l =
    Writes g.W.Write.contents l.initial.out l.out
    (flat_map (envelope_line l.test_case (codes "left") l.port) (take l.place l.queue.entries))
    × HaveTheirTexts l.test_case.config l.kept
