-- What of an inbox may go into a thread, or be shared with one.
-- A message holds values of a recursive type, so `search` has to be told of the values first, and then of each type in turn.
use denote.Param.Send.{IsSend, IsSync, sendable}
use Rattle.std.proofs.Crossing.{crosses}
use Rattle.tp_value.proofs.value.Value.TheLaws.TheKnot.{crosses_both as knot}
use Rattle.tp_config.proofs.port_type.RouteId.TheSendSync.{the_send as route_send}
use Rattle.crossbeam_queue.proofs.seg_queue.Chained.TheSendSync.{the_send as chained_send, the_sync as chained_sync}
use Rattle.crossbeam_queue.proofs.seg_queue.Ends.TheSendSync.{the_send as ends_send, the_sync as ends_sync}
use Rattle.atomic_blocks.proofs.web.Seat.TheSendSync.{the_send as seat_send}
use Rattle.tp_floor.proofs.FloorThreadSafety.{notifier_send}
use Rattle.tp_inbox.specs.contracts.envelope.InboxEnvelope as envelope
use Rattle.tp_inbox.specs.contracts.channel.Channel as channel
use Rattle.tp_inbox.specs.contracts.owner.Owner as owner
use Rattle.tp_inbox.specs.contracts.owner.Owner.TheInside as owner_inside
use Rattle.tp_inbox.specs.contracts.owner.Closer as closer
use Rattle.tp_inbox.specs.contracts.sender.Sender as sender
use Rattle.tp_inbox.specs.contracts.sender.Sender.TheInside as sender_inside
use Rattle.tp_inbox.proofs.DeskThreadSafety.{message_send, noted_message_field_send}

pub envelope_send : IsSend envelope.the_row
envelope_send = search (sendable, crosses, noted_message_field_send) depth 20

pub channel_send : IsSend channel.the_row
channel_send = search (sendable, crosses, envelope_send, notifier_send, chained_send, ends_send) depth 30

pub channel_sync : IsSync channel.the_row
channel_sync = search (sendable, crosses, envelope_send, notifier_send, chained_sync, ends_sync) depth 30

owner_inside_send : IsSend owner_inside.the_row
owner_inside_send = search (sendable, crosses, knot, message_send, envelope_send, channel_send, channel_sync, seat_send, route_send) depth 40 fits 20000

pub owner_send : IsSend owner.the_row
owner_send = search (sendable, crosses, owner_inside_send) depth 40

sender_inside_send : IsSend sender_inside.the_row
sender_inside_send = search (sendable, crosses, envelope_send, channel_send, channel_sync, seat_send) depth 40 fits 20000

pub sender_send : IsSend sender.the_row
sender_send = search (sendable, crosses, sender_inside_send) depth 40

pub closer_sync : IsSync closer.the_row
closer_sync = search (sendable, crosses, channel_send, channel_sync) depth 40
