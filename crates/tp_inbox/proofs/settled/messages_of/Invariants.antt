-- The messages of the first entries are there.
use Rattle.std.proofs.Common.{◌≡◌, take}
use Rattle.std.specs.List.{flat_map}
use Rattle.tp_inbox.specs.PutMessages.{message_of_entry}
use Rattle.tp_inbox.proofs.settled.messages_of.Given as goal

abbrev pub invariant-loop-entry : goal.invariant-loop-entry
invariant-loop-entry l = l.messages.items ≡ flat_map (message_of_entry l.route) (take l.entry-index l.log)
