-- What an `alt` has done while it goes on looking.
use Rattle.std.proofs.Common.{◌≡◌}
use Rattle.std.specs.Prelude.{All}
use Rattle.tp_behaviour.specs.Choices.{IsDrop}
use Rattle.tp_behaviour.specs.LookOutcomes.{TraceGrew}
use Rattle.tp_behaviour.specs.Workers.{IsConsistent, KeepsInboxes, role_of}
use Rattle.tp_behaviour.specs.Views.{all_viewed}
use Rattle.tp_behaviour.proofs.choosing.choose.Given as goal

-- so far a `trigger` discarded messages, and nothing else was done
abbrev pub invariant-loop : goal.invariant-loop
invariant-loop g l = record {
  consistent : IsConsistent (role_of l.execution.task.now) l.worker;
  same : KeepsInboxes l.initial.worker l.worker;
  ports : l.worker.desk.ports ≡ l.initial.worker.desk.ports;
  drops : TraceGrew (All (IsDrop (all_viewed l.guards))) l.initial.worker.desk.log l.worker.desk.log;
}
