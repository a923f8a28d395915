-- The first orders are written, one after the other.
use Rattle.tpr_ordered.proofs.WrittenOrdersGrowth.{AreFirst}
use Rattle.tpr_ordered.proofs.ordering.write_orders.Given as goal

abbrev pub invariant-loop-order : goal.invariant-loop-order
invariant-loop-order g l = AreFirst g.W.Write.contents l.trial.test_case.now l.orders l.initial.writer l.writer l.order-index
