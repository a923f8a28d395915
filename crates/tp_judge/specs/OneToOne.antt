-- A numbering is one to one: two lines have the same number if and only if they name the same.
use Rattle.std.specs.Prelude.{◌≡◌, ◌↔◌, ℕ, Option, Some, None, List, slice_get}
use Rattle.tp_judge.specs.declared.referee.line.MessageVerb.{MessageVerb}
use Rattle.tp_judge.specs.declared.referee.line.MessageVerb.TheVariants as fate
use Rattle.tp_judge.specs.LineTexts.{Letter, Told, passed, operated}
use Rattle.tp_judge.specs.declared.line.Act.{Act}
use Rattle.tp_judge.specs.declared.line.Act.TheVariants as act
use Rattle.tp_judge.specs.declared.line.Mention.{Mention}
use Rattle.tp_judge.specs.declared.line.IndexedLine.{IndexedLine}
use Rattle.tp_judge.specs.declared.trace.IndexedTrace.{IndexedTrace}
use Rattle.tp_judge.specs.Numbering.{IsNumberingOf, Stand, stands_of}

-- a port, by its component and its name
pub record PortName : Type 0 where
  pub component : List ℕ
  pub name : List ℕ

-- a route, by its sender and the port at its end
pub record RouteName : Type 0 where
  pub sender : List ℕ
  pub port : PortName

-- the route of a message that a line of this component's section mentions
abbrev pub route_between : List ℕ → MessageVerb → Letter → RouteName
route_between here fate.Sent letter =
    record { sender = here; port = record { component = letter.component; name = letter.port } }
route_between here _ letter =
    record { sender = letter.component; port = record { component = here; name = letter.port } }

-- the port, the route and the message that a line names
abbrev pub port_in_line : List ℕ → Told → Option PortName
port_in_line here (passed fate letter) = Some (route_between here fate letter).port
port_in_line here (operated operation name) = Some (record { component = here; name = name })
port_in_line here _ = None

abbrev pub route_in : List ℕ → Told → Option RouteName
route_in here (passed fate letter) = Some (route_between here fate letter)
route_in here _ = None

abbrev pub message_named : Told → Option (List ℕ)
message_named (passed fate letter) = Some letter.text
message_named _ = None

-- the message that a line in numbers mentions
abbrev pub mention_of : Act → Option Mention
mention_of (act.Sent m) = Some m
mention_of (act.Came m) = Some m
mention_of (act.Took m) = Some m
mention_of (act.Found m) = Some m
mention_of (act.Dropped m) = Some m
mention_of (act.Left m) = Some m
mention_of _ = None

abbrev pub route_of : Option Mention → Option ℕ
route_of None = None
route_of (Some m) = Some m.route

abbrev pub message_number : Option Mention → Option ℕ
message_number None = None
message_number (Some m) = Some m.parcel.message.0

abbrev pub port_of_act : Act → Option ℕ
port_of_act (act.Sent m) = Some m.port
port_of_act (act.Came m) = Some m.port
port_of_act (act.Took m) = Some m.port
port_of_act (act.Found m) = Some m.port
port_of_act (act.Dropped m) = Some m.port
port_of_act (act.Left m) = Some m.port
port_of_act (act.Cleared port) = Some port
port_of_act (act.Started port) = Some port
port_of_act (act.Stopped port) = Some port
port_of_act (act.Halted port) = Some port
port_of_act act.Else = None
port_of_act act.End = None
port_of_act act.Other = None

-- the two lines have the same number for a component, port, route or message if and only if they name the same one
pub record AreNumberedAlike (s u : Stand) (l m : IndexedLine) : Type 0 where
  pub section : (l.component ≡ m.component) ↔ (s.component ≡ u.component)
  pub port : (port_of_act l.act ≡ port_of_act m.act) ↔ (port_in_line s.component s.told ≡ port_in_line u.component u.told)
  pub route : (route_of (mention_of l.act) ≡ route_of (mention_of m.act))
      ↔ (route_in s.component s.told ≡ route_in u.component u.told)
  pub message : (message_number (mention_of l.act) ≡ message_number (mention_of m.act)) ↔ (message_named s.told ≡ message_named u.told)

-- this holds for any two lines of a numbering
abbrev pub IsOneToOne : Type 0
IsOneToOne = (tolds : List Told) (trace : IndexedTrace) (j k : ℕ) (s u : Stand) (l m : IndexedLine) → IsNumberingOf tolds trace
    → slice_get (stands_of tolds) j ≡ Some s → slice_get trace.lines.items j ≡ Some l
    → slice_get (stands_of tolds) k ≡ Some u → slice_get trace.lines.items k ≡ Some m → AreNumberedAlike s u l m
