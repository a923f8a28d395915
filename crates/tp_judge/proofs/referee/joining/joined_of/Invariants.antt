-- Of the first routes it is known whether both ends have a section.
use Rattle.std.proofs.Common.{take}
use Rattle.tp_judge.specs.Joining.{AreJoinedBy}
use Rattle.tp_judge.proofs.referee.joining.joined_of.Given as goal

abbrev pub invariant-loop-route : goal.invariant-loop-route
invariant-loop-route l = AreJoinedBy l.owners l.sections (take l.route-index l.routes) l.joined.items
