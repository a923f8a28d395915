-- An owner, its desk and a sender may go into a thread.
use denote.Param.Send.{sendable}
use Rattle.std.proofs.Crossing.{crosses}
use Rattle.tp_inbox.proofs.DeskThreadSafety.{desk_send}
use Rattle.tp_inbox.proofs.InboxThreadSafety.{owner_send, sender_send}
use Rattle.tp_tests.proofs.wakings.beside.Goals as goal

pub join-requires-send-F : goal.join-requires-send-F
join-requires-send-F g c κs low = search (sendable, crosses, owner_send, desk_send, sender_send, c.type_bounds.sync-R) depth 40
