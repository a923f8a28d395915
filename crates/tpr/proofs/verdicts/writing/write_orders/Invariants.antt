-- The lines of the first verdicts are written.
use Rattle.std.proofs.Common.{take}
use Rattle.std.specs.List.{flat_map}
use Rattle.tp_common.specs.Watching.{Writes}
use Rattle.tpr.specs.Texts.{order_line}
use Rattle.tpr.proofs.verdicts.writing.write_orders.Given as goal

abbrev pub invariant-loop-one : goal.invariant-loop-one
invariant-loop-one g l =
    Writes g.W.Write.contents l.initial.out l.out (flat_map (order_line l.config) (take l.one-index l.found))
