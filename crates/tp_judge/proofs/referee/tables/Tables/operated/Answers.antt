-- The operation is on the port that was found.
use Rattle.tp_judge.proofs.referee.tables.Tables.operated.Goals as goal

pub returns-clause-act : goal.returns-clause-act
returns-clause-act c = record { port = c.in_ok-port.port; is = c.operation_act.ensures; there = c.in_ok-port.ensures.there }
