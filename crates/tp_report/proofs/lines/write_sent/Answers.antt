-- The line begins with its opening.
use Rattle.tp_report.specs.ReportWords.{component_name, port_name}
use Rattle.tp_report.proofs.lines.write_sent.Goals as goal

pub returns-clause-written : goal.returns-clause-written
unfolding component_name port_name
returns-clause-written g c = simp (c.ty.ensures, c.value.ensures) at c.write_line.ensures.written
