-- Each component adds its name.
use Rattle.std.proofs.Common.{get_or}
use Rattle.std.proofs.lemmas.List.{get_or_default}
use Rattle.tp_config.specs.declared.port_type.CompId.{CompId}
use Rattle.tp_common.proofs.WatchedWriterGrowth.{nothing_yet, one_more, writes_both}
use Rattle.tpr.specs.Texts.{name_behind}
use Rattle.tpr.proofs.verdicts.writing.write_names.Goals as goal

pub loop-comp-init : goal.loop-comp-init
loop-comp-init g c = nothing_yet g.W.Write.contents _

pub loop-comp-preserved : goal.loop-comp-preserved
loop-comp-preserved g c =
    let order = c.args.order.now in
    let at = c.loop-comp.comp-index in
    let any : CompId = record { 0 = 0 } in
    one_more g.W.Write.contents (name_behind c.args.config.now) order at (get_or order at any) c.loop-comp-test.true
    (get_or_default order at any (get_or order at any) c.loop-comp-test.true) _ _ _ c.loop-comp.invariant
    (writes_both _ _ _ _ _ _ c.write_bytes.ensures c.write_component_name.ensures)
