-- What of a desk may go into a thread, or be shared with one.
-- A message holds values of a recursive type, so `search` has to be told of the values first, and then of each type in turn.
use denote.Param.Send.{IsSend, sendable}
use Rattle.std.proofs.Crossing.{crosses}
use Rattle.tp_value.proofs.shared.Shared.TheSendSync.{the_send as shared_send, the_sync as shared_sync}
use Rattle.tp_value.proofs.value.Value.TheLaws.TheKnot.{crosses_both as knot}
use Rattle.tp_value.specs.contracts.message.Message as message
use Rattle.tp_inbox.specs.contracts.noted.NotedEnvelope as noted_envelope
use Rattle.tp_inbox.specs.contracts.noted_message.NotedMessage as noted_message
use Rattle.tp_inbox.specs.contracts.entry.Entry as entry
use Rattle.tp_inbox.specs.contracts.desk.Desk as desk
use Rattle.tp_inbox.specs.contracts.desk.Desk.TheInside as desk_inside

pub message_send : IsSend message.the_row
message_send = search (sendable, crosses, knot, shared_send, shared_sync) depth 20

-- an envelope and a message of a history, as they stand in another type's field
noted_envelope_field_send : IsSend (noted_envelope.the_field).row
noted_envelope_field_send = search (sendable, crosses, knot, shared_send, shared_sync) depth 20

pub noted_message_field_send : IsSend (noted_message.the_field).row
noted_message_field_send = search (sendable, crosses, knot, shared_send, shared_sync) depth 20

pub entry_send : IsSend entry.the_row
entry_send = search (sendable, crosses, noted_envelope_field_send, noted_message_field_send) depth 40 fits 20000

desk_inside_send : IsSend desk_inside.the_row
desk_inside_send = search (sendable, crosses, knot, message_send, entry_send) depth 40 fits 20000

pub desk_send : IsSend desk.the_row
desk_send = search (sendable, crosses, desk_inside_send) depth 40
