-- A worker may go into a thread, and come back from it with how its behaviour ended; the context of the run may be shared with it.
-- A guard holds templates, which are of recursive types, so `search` has to be told of each type in turn, the innermost first.
use denote.Param.Send.{IsSend, IsSync, sendable}
use Rattle.std.proofs.Crossing.{crosses}
use Rattle.indexmap.proofs.map.IndexMap.TheSendSync.{the_send as map_send}
use Rattle.tp_value.proofs.shared.Shared.TheSendSync.{the_send as shared_send, the_sync as shared_sync}
use Rattle.tp_value.proofs.value.Value.TheLaws.TheKnot.{crosses_both as value_knot}
use Rattle.tp_value.proofs.template.Template.TheLaws.TheKnot.{crosses as template_knot}
use Rattle.tp_config.proofs.port_type.RouteId.TheSendSync.{the_send as route_send}
use Rattle.tp_floor.proofs.FloorThreadSafety.{floor_send, floor_sync}
use Rattle.tp_inbox.proofs.DeskThreadSafety.{desk_send}
use Rattle.tp_inbox.proofs.InboxThreadSafety.{closer_sync, owner_send, sender_send}
use Rattle.tp_behaviour.specs.contracts.choice.Guard as guard
use Rattle.tp_behaviour.specs.contracts.outbox.Outbox as outbox
use Rattle.tp_behaviour.specs.contracts.outbox.Outbox.TheInside as outbox_inside
use Rattle.tp_behaviour.specs.contracts.outcome.Outcome as outcome
use Rattle.tp_behaviour.specs.contracts.worker.Worker as worker
use Rattle.tp_exec.specs.contracts.played.Played as played
use Rattle.tp_exec.specs.contracts.threads.RunContext as context

outbox_inside_send : IsSend outbox_inside.the_row
outbox_inside_send = search (sendable, crosses, sender_send, map_send, route_send) depth 30

outbox_send : IsSend outbox.the_row
outbox_send = search (sendable, crosses, outbox_inside_send) depth 30

pub worker_send : IsSend worker.the_row
worker_send = search (sendable, crosses, owner_send, desk_send, outbox_send) depth 30

-- the same of a worker as it stands in another type's field
worker_field_send : IsSend (worker.the_field).row
worker_field_send = search (sendable, crosses, owner_send, desk_send, outbox_send) depth 30

guard_send : IsSend guard.the_row
guard_send = search (sendable, crosses, template_knot, value_knot, shared_send, shared_sync) depth 40 fits 20000

-- an outcome, as it stands in another type's field
outcome_field_send : IsSend (outcome.the_field).row
outcome_field_send = search (sendable, crosses, guard_send) depth 30

pub played_send : IsSend played.the_row
played_send = search (sendable, crosses, worker_field_send, outcome_field_send) depth 30

-- what all behaviours of a run share may be shared with their threads
pub context_sync : IsSync context.the_row
context_sync = search (sendable, crosses, floor_send, floor_sync, closer_sync) depth 40
