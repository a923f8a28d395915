-- What is said is said of the numbering.
use Rattle.tp_judge.proofs.referee.ruling.referee.Goals as goal

pub returns-clause-ruling : goal.returns-clause-ruling
returns-clause-ruling c = record { trace = c.in_ok-trace.trace; numbered = c.in_ok-trace.ensures.numbered; judged = c.in_ok-ruling.ensures }
