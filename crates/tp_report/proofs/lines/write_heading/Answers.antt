-- A word, the name, and the end of the line.
use Rattle.tp_common.proofs.WatchedWriterGrowth.{writes_both}
use Rattle.tp_report.proofs.lines.write_heading.Goals as goal

pub returns : goal.returns
returns g c =
    let name = rw c.config.ensures at c.write_component_name.ensures in
    writes_both _ _ _ _ _ _ c.write_bytes.ensures (writes_both _ _ _ _ _ _ name c.write_bytes-2.ensures)
