-- The words of the line, one after the other.
use Rattle.tp_common.proofs.WatchedWriterGrowth.{writes_both}
use Rattle.tpr.proofs.verdicts.writing.write_always.Goals as goal

pub returns : goal.returns
returns g c =
    let word = rw c.verdict_word.ensures at c.write_bytes-2.ensures in
    writes_both _ _ _ _ _ _ c.write_bytes.ensures (writes_both _ _ _ _ _ _ word c.write_bytes-3.ensures)
