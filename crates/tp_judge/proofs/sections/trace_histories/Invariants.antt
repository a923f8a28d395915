-- The sections of the lines so far.
use Rattle.std.proofs.Common.{◌≡◌, length}
use Rattle.tp_judge.specs.TraceKinds.{AreSections}
use Rattle.tp_judge.proofs.sections.trace_histories.Given as goal

abbrev pub invariant-loop-place : goal.invariant-loop-place
invariant-loop-place l = AreSections l.trace l.place l.sections.items
