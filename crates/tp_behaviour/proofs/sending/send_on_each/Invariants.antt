-- What stays as it is, and on which of the routes the message went out so far.
use Rattle.std.proofs.Common.{ℕ, take}
use Rattle.tp_behaviour.specs.Paths.{IsStarted}
use Rattle.tp_behaviour.specs.Workers.{IsConsistent, KeepsInboxes, role_of}
use Rattle.tp_behaviour.proofs.SendOutcomes.{IsSentOnEach}
use Rattle.tp_behaviour.proofs.sending.send_on_each.Given as goal

-- the message went out on the routes so far
abbrev pub invariant-loop-route : goal.invariant-loop-route
invariant-loop-route g l = record {
  consistent : IsConsistent (role_of l.execution.task.now) l.worker;
  same : KeepsInboxes l.initial.worker l.worker;
  each : (port : ℕ) → IsStarted l.initial.worker.desk.log port
      → IsSentOnEach port l.message (take l.route-index l.routes) l.initial.worker.desk.log l.worker.desk.log;
}
