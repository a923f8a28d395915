-- The words of the line, one after the other.
use Rattle.tp_common.proofs.WatchedWriterGrowth.{writes_both}
use Rattle.tpr.proofs.verdicts.writing.write_states.Goals as goal

pub returns : goal.returns
returns g c =
    writes_both _ _ _ _ _ _ c.write_bytes.ensures (writes_both _ _ _ _ _ _ c.write_number.ensures c.write_bytes-2.ensures)
