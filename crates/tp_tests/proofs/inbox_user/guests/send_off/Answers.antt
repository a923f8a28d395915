-- A sender may go into a thread, and come back.
use denote.Param.Send.{sendable}
use Rattle.std.proofs.Crossing.{crosses}
use Rattle.tp_inbox.proofs.InboxThreadSafety.{sender_send}
use Rattle.tp_tests.proofs.inbox_user.guests.send_off.Goals as goal

pub spawn_with-requires-send-F : goal.spawn_with-requires-send-F
spawn_with-requires-send-F g c κs low = search (sendable, crosses, sender_send) depth 40

pub spawn_with-requires-send-T : goal.spawn_with-requires-send-T
spawn_with-requires-send-T g c κs low = search (sendable, crosses, sender_send) depth 40
