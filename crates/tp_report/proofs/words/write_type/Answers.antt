-- The name of the type, and a colon.
use Rattle.tp_common.proofs.WatchedWriterGrowth.{writes_both}
use Rattle.tp_report.proofs.words.write_type.Goals as goal

pub returns-in-Named : goal.returns-in-Named
returns-in-Named g c =
    let name = rw c.named_type.ensures at c.write_bytes-in-Named.ensures in rw c.in-Named.is (writes_both _ _ _ _ _ _ name c.write_bytes-in-Named-2.ensures)
