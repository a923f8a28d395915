-- The senders so far are with their components, and the others are to come.
use Rattle.std.specs.Vec.Iter.{into_iter_items}
use Rattle.tp_exec.proofs.SendersGivenToWorkers.{AreDealt}
use Rattle.tp_exec.proofs.inboxes.hand_out.Given as goal

abbrev pub invariant-loop-sender : goal.invariant-loop-sender
invariant-loop-sender l = AreDealt l.fn.workers.items l.fn.senders.items (into_iter_items l.sender-iterator) l.equipped.items
