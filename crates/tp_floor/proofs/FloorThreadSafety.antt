-- That a floor may go into a thread and be shared with one, and that a notifier may go into one.
use denote.Param.Send.{IsSend, IsSync, sendable}
use Rattle.std.proofs.Crossing.{crosses}
use Rattle.atomic_table.proofs.shared.Shared.TheSendSync.{the_send as shared_send, the_sync as shared_sync}
use Rattle.atomic_table.proofs.send_lease.SendLease.TheSendSync.{the_send as lease_send, the_sync as lease_sync}
use Rattle.atomic_table.proofs.shared.Seat.TheSendSync.{the_send as pass_send}
use Rattle.tp_floor.specs.contracts.floor.Counts as counts
use Rattle.tp_floor.specs.contracts.floor.Floor as floor
use Rattle.tp_floor.specs.contracts.floor.FloorPlace as place
use Rattle.tp_floor.specs.contracts.notifier.Notifier as notifier
use Rattle.tp_floor.specs.contracts.notifier.Notifier.TheInside as notifier_inside

counts_send : IsSend counts.the_row
counts_send = search (sendable, crosses) depth 20

pub floor_send : IsSend floor.the_row
floor_send = search (sendable, crosses, shared_send, lease_send, counts_send) depth 30

pub floor_sync : IsSync floor.the_row
floor_sync = search (sendable, crosses, shared_sync, lease_sync, counts_send) depth 30

-- a place as it stands in another type's field
place_field_send : IsSend (place.the_field).row
place_field_send = search (sendable, crosses, floor_send, floor_sync, pass_send) depth 20

notifier_inside_send : IsSend notifier_inside.the_row
notifier_inside_send = search (sendable, crosses, place_field_send) depth 20

pub notifier_send : IsSend notifier.the_row
notifier_send = search (sendable, crosses, notifier_inside_send) depth 20
