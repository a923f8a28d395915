-- How many of the sender's routes are filed, and that no others changed.
use Rattle.tp_inbox.specs.Places.{KeepsOtherRoutes}
use Rattle.tp_behaviour.specs.Outboxes.{AreFiledAt}
use Rattle.tp_behaviour.proofs.outbox.file.Given as goal

-- the routes so far are filed
abbrev pub invariant-loop-way : goal.invariant-loop-way
invariant-loop-way l = record {
  filed : AreFiledAt l.way l.sender.routes l.place l.places;
  others : KeepsOtherRoutes l.sender.routes l.initial.places l.places;
}
