-- The line begins with its opening.
use Rattle.std.proofs.Common.{append_assoc}
use Rattle.tp_report.proofs.lines.write_noted.Goals as goal

pub returns-clause-written : goal.returns-clause-written
returns-clause-written g c = simp (append_assoc, c.sender.ensures, c.number.ensures, c.ty.ensures, c.value.ensures) at c.write_line.ensures.written
