-- On how many of the ports the operation was carried out.
use Rattle.std.proofs.Common.{◌≡◌}
use Rattle.tp_behaviour.specs.Fresh.{HasOwn}
use Rattle.tp_behaviour.specs.LookOutcomes.{TraceGrew}
use Rattle.tp_behaviour.specs.Workers.{IsConsistent, KeepsInboxes, role_of}
use Rattle.tp_behaviour.proofs.PortOperationOutcomes.{AreSoFar}
use Rattle.tp_behaviour.proofs.acting.all_ports.Given as goal

-- the operation was carried out on the ports so far, with nothing between
abbrev pub invariant-loop-port : goal.invariant-loop-port
invariant-loop-port g l = record {
  consistent : IsConsistent (role_of l.execution.task.now) l.worker;
  same : KeepsInboxes l.initial.worker l.worker;
  ports : l.worker.desk.ports ≡ l.initial.worker.desk.ports;
  own : HasOwn l.execution.task.now.comp l.worker.desk.log;
  done : TraceGrew (AreSoFar l.operation l.port l.worker.desk.log) l.initial.worker.desk.log l.worker.desk.log;
}
