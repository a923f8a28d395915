-- The messages that were put on a route.
use Rattle.std.specs.Prelude.{ℕ, cond, ◌==◌, ◌&&◌, List, [], ◌∷◌, map}
use Rattle.tp_value.specs.declared.message.Message.{Message}
use Rattle.tp_config.specs.declared.port_type.RouteId.{RouteId}
use Rattle.tp_inbox.specs.declared.entry.Entry.{Entry}
use Rattle.tp_inbox.specs.declared.entry.Entry.TheVariants as entry
use Rattle.tp_inbox.specs.declared.stamped.Stamped.{Stamped}
use Rattle.tp_inbox.specs.declared.posted.Posted.{Posted}
use Rattle.tp_inbox.specs.History.{posted_on}

-- the messages among these that were put on this route, in order
abbrev pub messages_on : RouteId → List Posted → List Message
messages_on r sent = map (λ (p : ℕ × Stamped). p.1.message) (posted_on r sent)

-- the message that arrives at this port from this component, if it arrives on this route
abbrev pub arrived_message : RouteId → ℕ → ℕ → Message → List Message
arrived_message r port sender m = cond ((r.to.port == port) && (r.source.0 == sender)) (m ∷ []) []

-- the message of an entry, if it is an arrival on this route
abbrev pub message_of_entry : RouteId → Entry → List Message
message_of_entry r (entry.Arrive port stamp env) = arrived_message r port env.sender env.msg
message_of_entry r _ = []
