-- The drain before the operation makes no moment, so that the operation is the only one.
use Rattle.tp_behaviour.specs.Workers.{role_of}
use Rattle.tp_behaviour.proofs.PortOperationOutcomes.{stepped_control}
use Rattle.tp_behaviour.proofs.acting.control.Goals as goal

pub returns-clause-stepped : goal.returns-clause-stepped
returns-clause-stepped g c =
    stepped_control (role_of c.args.execution.now.task.now) c.args.operation c.args.port c.args.worker.now.desk.log c.look_in.new.worker.desk.log
    c.operate_at.new.worker.desk.log
    c.in_ok-look_in.ensures.trace c.in_ok-operate_at.ensures.trace
