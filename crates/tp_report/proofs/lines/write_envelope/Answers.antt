-- The line begins with its opening.
use Rattle.std.proofs.Common.{append_assoc}
use Rattle.tp_report.proofs.lines.write_envelope.Goals as goal

pub returns-clause-written : goal.returns-clause-written
returns-clause-written g c = simp append_assoc at c.write_line.ensures.written
