-- The words of the line, one after the other.
use Rattle.tp_common.proofs.WatchedWriterGrowth.{writes_both}
use Rattle.tpr.proofs.modes.write_refused.Goals as goal

pub returns : goal.returns
returns g c =
    writes_both _ _ _ _ _ _ (writes_both _ _ _ _ _ _ (writes_both _ _ _ _ _ _ (writes_both _ _ _ _ _ _ c.write_bytes.ensures c.write_label.ensures) c.write_bytes-2.ensures) c.write_number.ensures)
    c.write_bytes-3.ensures
