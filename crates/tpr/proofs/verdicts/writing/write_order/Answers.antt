-- The words of the line, one after the other.
use Rattle.tp_common.proofs.WatchedWriterGrowth.{writes_both}
use Rattle.tpr.proofs.verdicts.writing.write_order.Goals as goal

pub returns : goal.returns
returns g c =
    let verdict = rw c.verdict_word.ensures at c.write_bytes.ensures in
    let names = rw c.as_slice.ensures.value at c.write_names.ensures in
    writes_both _ _ _ _ _ _ verdict (writes_both _ _ _ _ _ _ c.write_bytes-2.ensures (writes_both _ _ _ _ _ _ names c.write_bytes-3.ensures))
