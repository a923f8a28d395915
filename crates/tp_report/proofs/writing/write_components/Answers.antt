-- At first nothing is written, and nothing is kept; each component adds its text.
use Rattle.tp_common.proofs.WatchedWriterGrowth.{nothing_yet, one_more}
use Rattle.tp_report.proofs.writing.write_components.Goals as goal

pub loop-component-init : goal.loop-component-init
loop-component-init g c = (nothing_yet g.W.Write.contents _, c.new-kept.ensures c.args.test_case.now.config)

pub loop-component-preserved : goal.loop-component-preserved
loop-component-preserved g c = (
  one_more g.W.Write.contents _ c.args.components.now c.loop-component.component-index c.component-item.result c.loop-component-test.true
      c.component-item.is _ _ _ c.loop-component.invariant.0 c.write_component.ensures.written,
  c.write_component.ensures.kept,
)
