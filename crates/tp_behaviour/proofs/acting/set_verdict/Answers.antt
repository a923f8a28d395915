-- The one entry is a path of the statement.
use Rattle.tp_behaviour.specs.Workers.{role_of}
use Rattle.tp_behaviour.proofs.PortOperationOutcomes.{stepped_verdict}
use Rattle.tp_behaviour.proofs.acting.set_verdict.Goals as goal

pub returns-clause-stepped : goal.returns-clause-stepped
returns-clause-stepped c =
    stepped_verdict (role_of c.args.task.now) c.args.verdict c.args.worker.now.desk.log c.note.new.worker.desk.log c.in_ok-note.ensures.trace
