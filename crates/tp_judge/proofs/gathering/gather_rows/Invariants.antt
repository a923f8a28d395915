-- The lines so far are gathered.
use Rattle.std.proofs.Common.{take}
use Rattle.tp_judge.specs.LinesByNumber.{AreGathered}
use Rattle.tp_judge.proofs.gathering.gather_rows.Given as goal

abbrev pub invariant-loop-line : goal.invariant-loop-line
invariant-loop-line l = AreGathered l.by l.count (take l.line-index l.lines) l.rows.items
