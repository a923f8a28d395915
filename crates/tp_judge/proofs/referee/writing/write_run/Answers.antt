-- The words of the line, one after the other.
use Rattle.tp_common.proofs.WatchedWriterGrowth.{writes_both}
use Rattle.tp_judge.proofs.referee.writing.write_run.Goals as goal

pub returns-in-Delayed : goal.returns-in-Delayed
returns-in-Delayed g c =
    rw c.in-Delayed.is (writes_both _ _ _ _ _ _ (writes_both _ _ _ _ _ _ c.write_bytes-in-Delayed.ensures c.write_number.ensures) c.write_bytes-in-Delayed-2.ensures)
