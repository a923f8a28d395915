-- How many of the senders that lead back are known to be level.
use Rattle.std.proofs.Common.{◌≡◌, Some, take}
use Rattle.std.specs.Prelude.{All, slice_get}
use Rattle.tp_inbox.specs.Ledgers.{SenderLedger}
use Rattle.tp_behaviour.specs.Outboxes.{IsLevel}
use Rattle.tp_behaviour.proofs.outbox.Outbox.is_level.Given as goal

-- the senders at the places so far are level
abbrev pub invariant-loop-place : goal.invariant-loop-place
invariant-loop-place l =
    All (λ k. (s : SenderLedger) → slice_get l.self-inside.senders.items k ≡ Some s → IsLevel l.owner.drained s) (take l.place-index l.self-inside.loops.items)
