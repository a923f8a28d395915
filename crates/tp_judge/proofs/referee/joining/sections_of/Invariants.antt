-- Of the first components it is known whether they have a section.
use Rattle.std.proofs.Common.{take}
use Rattle.tp_judge.specs.Joining.{AreSections}
use Rattle.tp_judge.proofs.referee.joining.sections_of.Given as goal

abbrev pub invariant-loop-number : goal.invariant-loop-number
invariant-loop-number l = AreSections l.trace (take l.number l.components) l.sections.items
