-- What the lines of a trace say, and how they are gathered.
use Rattle.std.specs.Prelude.{◌==◌, ◌<◌, ℕ, Bool, false, Option, Some, None, List, IfSome, filter}
use Rattle.tp_common.specs.declared.event.Env.{Env}
use Rattle.tp_common.specs.declared.event.Event.{Event}
use Rattle.tp_common.specs.declared.event.Event.TheVariants as event
use Rattle.tp_judge.specs.declared.line.MessageId.{MessageId}
use Rattle.tp_judge.specs.declared.line.Parcel.{Parcel}
use Rattle.tp_judge.specs.declared.line.Mention.{Mention}
use Rattle.tp_judge.specs.declared.line.Act.{Act}
use Rattle.tp_judge.specs.declared.line.Act.TheVariants as act
use Rattle.tp_judge.specs.declared.line.IndexedLine.{IndexedLine}
use Rattle.tp_judge.specs.declared.line.By.{By}
use Rattle.tp_judge.specs.declared.line.By.TheVariants as by

-- the route of a sending
abbrev pub sent_route : Act → Option ℕ
sent_route (act.Sent m) = Some m.route
sent_route _ = None

-- the route of an arrival
abbrev pub came_route : Act → Option ℕ
came_route (act.Came m) = Some m.route
came_route _ = None

-- the port at which something happened
abbrev pub event_port : Act → Option ℕ
event_port (act.Came m) = Some m.port
event_port (act.Took m) = Some m.port
event_port (act.Found m) = Some m.port
event_port (act.Dropped m) = Some m.port
event_port (act.Cleared port) = Some port
event_port (act.Started port) = Some port
event_port (act.Stopped port) = Some port
event_port (act.Halted port) = Some port
event_port (act.Sent m) = None
event_port (act.Left m) = None
event_port act.Else = None
event_port act.End = None
event_port act.Other = None

-- the port in whose queue something was left
abbrev pub left_port : Act → Option ℕ
left_port (act.Left m) = Some m.port
left_port _ = None

-- the component, if the line says what was left, or that the component ended
abbrev pub closed_by : ℕ → Act → Option ℕ
closed_by component (act.Left m) = Some component
closed_by component act.End = Some component
closed_by component _ = None

-- the number by which a line is gathered
abbrev pub key_of : By → IndexedLine → Option ℕ
key_of by.Sent line = sent_route line.act
key_of by.Came line = came_route line.act
key_of by.Port line = event_port line.act
key_of by.Left line = left_port line.act
key_of by.Closing line = closed_by line.component line.act
key_of by.Component line = Some line.component

abbrev pub is_number : ℕ → Option ℕ → Bool
is_number key None = false
is_number key (Some n) = n == key

-- the lines with this number, in their order
abbrev pub lines_with : By → ℕ → List IndexedLine → List IndexedLine
lines_with by key lines = filter (λ line. is_number key (key_of by line)) lines

-- the number by which the line is gathered, if it has one, is below the count
abbrev pub HasKeyBelow : By → ℕ → IndexedLine → Type 0
HasKeyBelow by count line = IfSome (key_of by line) (λ key. key < count)

-- a message as a port's queue has it: the number of its route takes the place of its sender
abbrev pub envelope_of : Mention → Env MessageId
envelope_of m = record { sender = m.route; number = m.parcel.number; msg = m.parcel.message }

-- the event at a port
abbrev pub event_of : Act → Option (Event MessageId)
event_of (act.Came m) = Some (event.Arrive (envelope_of m))
event_of (act.Took m) = Some (event.Took (envelope_of m))
event_of (act.Found m) = Some (event.Found (envelope_of m))
event_of (act.Dropped m) = Some (event.Dropped (envelope_of m))
event_of (act.Cleared port) = Some event.Cleared
event_of (act.Started port) = Some event.Started
event_of (act.Stopped port) = Some event.Stopped
event_of (act.Halted port) = Some event.Halted
event_of (act.Sent m) = None
event_of (act.Left m) = None
event_of act.Else = None
event_of act.End = None
event_of act.Other = None

-- the message that was left in a queue
abbrev pub left_of : Act → Option (Env MessageId)
left_of (act.Left m) = Some (envelope_of m)
left_of _ = None

-- the parcel that was sent or arrived
abbrev pub parcel_of : Act → Option Parcel
parcel_of (act.Sent m) = Some m.parcel
parcel_of (act.Came m) = Some m.parcel
parcel_of _ = None

-- the message that was taken, found or discarded
abbrev pub looked_at : Act → Option (Env MessageId)
looked_at (act.Took m) = Some (envelope_of m)
looked_at (act.Found m) = Some (envelope_of m)
looked_at (act.Dropped m) = Some (envelope_of m)
looked_at _ = None
