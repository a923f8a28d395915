-- The first line, and then the second.
use Rattle.tp_common.proofs.WatchedWriterGrowth.{writes_both}
use Rattle.tp_judge.proofs.referee.writing.write_lawful.Goals as goal

pub returns : goal.returns
returns g c = writes_both _ _ _ _ _ _ c.write_bytes.ensures c.write_run.ensures
