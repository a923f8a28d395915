-- What stays as it is from drain to drain.
use Rattle.std.proofs.Common.{◌≡◌}
use Rattle.tp_behaviour.specs.Moments.{moments}
use Rattle.tp_behaviour.specs.Workers.{IsConsistent, KeepsInboxes, role_of}
use Rattle.tp_behaviour.proofs.looking.look_in.Given as goal

-- nothing has happened so far but arrivals
abbrev pub invariant-loop : goal.invariant-loop
invariant-loop g l = record {
  consistent : IsConsistent (role_of l.task) l.worker;
  same : KeepsInboxes l.initial.worker l.worker;
  ports : l.worker.desk.ports ≡ l.initial.worker.desk.ports;
  trace : moments l.worker.desk.log ≡ moments l.initial.worker.desk.log;
}
