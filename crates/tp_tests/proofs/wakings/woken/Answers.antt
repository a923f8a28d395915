-- An owner and its desk may go into a thread.
use denote.Param.Send.{sendable}
use Rattle.std.proofs.Crossing.{crosses}
use Rattle.tp_inbox.proofs.DeskThreadSafety.{desk_send}
use Rattle.tp_inbox.proofs.InboxThreadSafety.{owner_send}
use Rattle.tp_tests.proofs.wakings.woken.Goals as goal

pub join-requires-send-F : goal.join-requires-send-F
join-requires-send-F g c κs low = search (sendable, crosses, owner_send, desk_send) depth 40
