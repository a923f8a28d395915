-- The words of the line, one after the other.
use Rattle.tp_common.proofs.WatchedWriterGrowth.{writes_both}
use Rattle.tp_exec.proofs.fault.write_run_fault.Goals as goal

pub returns : goal.returns
returns g c =
    let number = rw (c.label-number.ensures.number, c.refusal.ensures) at c.write_number.ensures in
    let name = rw (c.as_bytes.ensures.value, c.label-number.ensures.name, c.refusal.ensures) at c.write_bytes-3.ensures in
    writes_both _ _ _ _ _ _ (writes_both _ _ _ _ _ _ (writes_both _ _ _ _ _ _ (writes_both _ _ _ _ _ _ c.write_bytes.ensures number) c.write_bytes-2.ensures) name) c.write_bytes-4.ensures
