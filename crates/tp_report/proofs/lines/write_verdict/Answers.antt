-- A word, the verdict, and the end of the line.
use Rattle.tp_common.proofs.WatchedWriterGrowth.{writes_both}
use Rattle.tp_report.proofs.lines.write_verdict.Goals as goal

pub returns : goal.returns
returns g c =
    let verdict = rw c.verdict_word.ensures at c.write_bytes-2.ensures in
    writes_both _ _ _ _ _ _ c.write_bytes.ensures (writes_both _ _ _ _ _ _ verdict c.write_bytes-3.ensures)
