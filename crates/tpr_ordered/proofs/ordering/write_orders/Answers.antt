-- One more order is written after the others, until all are, or the writer has failed.
use Rattle.std.proofs.Common.{sym}
use Rattle.tp_common.proofs.WatchedWriterGrowth.{not_both}
use Rattle.tpr_ordered.proofs.WrittenOrdersGrowth.{first_of_them, none_yet, written_more}
use Rattle.tpr_ordered.proofs.ordering.write_orders.Goals as goal

pub loop-order-init : goal.loop-order-init
loop-order-init g c = none_yet g.W.Write.contents _ c.args.orders.now _

pub loop-order-preserved : goal.loop-order-preserved
loop-order-preserved g c =
    written_more g.W.Write.contents c.args.trial.now.test_case.now _ _ _ c.args.orders.now c.loop-order.order-index c.order-item.result c.loop-order-test.true
    c.order-item.is c.loop-order.invariant c.write_order.ensures

pub returns-then-has_failed : goal.returns-then-has_failed
returns-then-has_failed g c =
    first_of_them g.W.Write.contents _ c.args.orders.now _ _ c.loop-order.order-index (λ well. absurd (not_both _ (sym c.if-has_failed.ensures) well))
    c.loop-order.invariant

pub returns : goal.returns
returns g c =
    first_of_them g.W.Write.contents _ c.args.orders.now _ _ c.loop-order.order-index (λ well. c.loop-order-test.false) c.loop-order.invariant
