-- The number between two spaces, the message and the end of the line.
use Rattle.std.proofs.Common.{append_assoc}
use Rattle.tp_common.proofs.WatchedWriterGrowth.{writes_both}
use Rattle.tp_report.proofs.rest.write_pieces.Goals as goal

pub returns : goal.returns
returns g c =
    let whole = writes_both _ _ _ _ _ _ c.write_spaced.ensures (writes_both _ _ _ _ _ _ c.write_message.ensures c.write_bytes.ensures) in
    simp append_assoc at whole
