-- The opening, and then the rest.
use Rattle.tp_common.proofs.WatchedWriterGrowth.{writes_both}
use Rattle.tp_report.proofs.lines.write_line.Goals as goal

pub returns-clause-written : goal.returns-clause-written
returns-clause-written g c =
    let opening = rw c.config.ensures at c.write_opening.ensures.written in
    let rest = rw c.types.ensures at c.write_rest_of_line.ensures in
    writes_both _ _ _ _ _ _ opening rest
