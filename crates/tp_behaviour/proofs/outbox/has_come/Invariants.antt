-- Of how many of the sender's routes it is known that all has come.
use Rattle.std.proofs.Common.{ℕ, ◌<◌}
use Rattle.tp_inbox.specs.Routed.{route_at}
use Rattle.tp_behaviour.specs.Outboxes.{IsLevelOn}
use Rattle.tp_behaviour.proofs.outbox.has_come.Given as goal

-- the sender is level on its routes so far
abbrev pub invariant-loop-way : goal.invariant-loop-way
invariant-loop-way l = (k : ℕ) → k < l.way → IsLevelOn l.owner.drained l.sender (route_at l.sender.routes k)
