-- Each verdict adds its line.
use Rattle.tp_common.proofs.WatchedWriterGrowth.{nothing_yet, one_more}
use Rattle.tpr.proofs.verdicts.writing.write_orders.Goals as goal

pub loop-one-init : goal.loop-one-init
loop-one-init g c = nothing_yet g.W.Write.contents _

pub loop-one-preserved : goal.loop-one-preserved
loop-one-preserved g c =
    one_more g.W.Write.contents _ c.args.found.now c.loop-one.one-index c.one-item.result c.loop-one-test.true
    c.one-item.is _ _ _ c.loop-one.invariant c.write_order.ensures
