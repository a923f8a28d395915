-- The pieces, one after the other.
use Rattle.tp_common.proofs.WatchedWriterGrowth.{writes_both}
use Rattle.tp_report.proofs.opening.write_opening_pieces.Goals as goal

pub returns : goal.returns
returns g c =
    writes_both _ _ _ _ _ _ c.write_bytes.ensures (writes_both _ _ _ _ _ _ c.write_bytes-2.ensures (writes_both _ _ _ _ _ _ c.write_bytes-3.ensures c.write_bytes-4.ensures))
