-- The outcome of a send, and what a send may mention.
use Rattle.std.specs.Prelude.{◌≡◌, ◌<◌, ◌≤◌, ℕ, Option, Some, None, List, length, ⊤}
use Rattle.tp_value.specs.declared.message.Message.{Message}
use Rattle.tp_config.specs.declared.port_type.RouteId.{RouteId}
use Rattle.tp_play.specs.declared.body.Sent.{Sent}
use Rattle.tp_play.specs.declared.body.Sent.TheVariants as sent
use Rattle.tp_play.specs.declared.body.Receiver.{Receiver}
use Rattle.tp_play.specs.declared.body.Receiver.TheVariants as receiver
use Rattle.tp_play.specs.declared.body.SendOperation.{SendOperation}
use Rattle.tp_play.specs.declared.body.ResolvedStatement.TheVariants as statement
use Rattle.tp_play.specs.Fills.{needed}
use Rattle.tp_inbox.specs.declared.entry.Entry.{Entry}
use Rattle.tp_inbox.specs.declared.entry.Entry.TheVariants as entry
use Rattle.tp_inbox.specs.declared.send_fault.SendFault.{SendFault}
use Rattle.tp_inbox.specs.History.{next_of, sent_on}
use Rattle.tp_behaviour.specs.BehaviourEnds.{IsFailure}
use Rattle.tp_behaviour.specs.declared.held.Held.{Held}
use Rattle.tp_behaviour.specs.declared.task.Task.{Task}
use Rattle.tp_behaviour.specs.declared.worker.Worker.{Worker}
use Rattle.tp_behaviour.specs.declared.worker.Frame.{Frame}
use Rattle.tp_behaviour.specs.Held.{Actor, Values}
use Rattle.tp_behaviour.specs.Paths.{IsStep}
use Rattle.tp_behaviour.specs.LookOutcomes.{TraceGrew, One}
use Rattle.tp_behaviour.specs.Workers.{HoldsNoMessage, HoldsMessages, role_of, values_of}

-- the message to send needs at most this number of loop variables, or is a variable for messages
abbrev pub CanFill : List (Option Held) → ℕ → Sent → Type 0
CanFill variables turns (sent.Written m) = needed m.value ≤ turns
CanFill variables turns (sent.Variable k) = HoldsMessages variables k

-- the receiver, if one is named, is one of this number of references, or a variable for components; it isn't all
-- components
abbrev pub CanName : List (Option Held) → ℕ → Receiver → Type 0
CanName variables references receiver.Nobody = ⊤
CanName variables references (receiver.Reference k) = k < references
CanName variables references (receiver.Variable k) = HoldsNoMessage variables k
CanName variables references receiver.All = ⊥

-- the outcome of a send: it is executed, or the behaviour ends with this fault
abbrev pub Sends : Actor → Values → SendOperation → Option SendFault → List Entry → List Entry → Type 0
Sends r vs x None before after =
    TraceGrew (λ ts. IsStep r vs.turns vs.variables (statement.Send x) ts vs.variables) before after
Sends r vs x (Some fault) before after =
    TraceGrew (One (λ t. IsFailure r vs x t.before fault × (t.entry ≡ entry.Failed fault))) before after

-- the same for a worker, with the values of its frame
abbrev pub SendsAt : Task → Frame → SendOperation → Worker → Worker → Option SendFault → Type 0
SendsAt p s x here there fault = Sends (role_of p) (values_of s) x fault here.desk.log there.desk.log

-- the entry of a message that is sent on this route now: it has the next number there, and the next stamp
abbrev pub next_sent : RouteId → Message → List Entry → Entry
next_sent route m k = entry.Sent route (length (sent_on route k)) (next_of k m)
