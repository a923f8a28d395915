-- A word, the number, and the end of the line.
use Rattle.tp_common.proofs.WatchedWriterGrowth.{writes_both}
use Rattle.tp_report.proofs.lines.write_failure.Goals as goal

pub returns : goal.returns
returns g c =
    let number = rw (c.label.ensures.number, c.refusal.ensures) at c.write_number.ensures in
    writes_both _ _ _ _ _ _ c.write_bytes.ensures (writes_both _ _ _ _ _ _ number c.write_bytes-2.ensures)
