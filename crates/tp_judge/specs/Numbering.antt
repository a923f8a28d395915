-- A trace in numbers, and what they stand for.
use Rattle.std.specs.Prelude.{◌≡◌, ◌≢◌, ◌+◌, ◌↔◌, ℕ, Some, List, [], ◌∷◌, Contains, length, map, slice_get, AllPairs}
use Rattle.std.specs.List.{AllZip}
use Rattle.tp_common.specs.declared.operation.PortOperation.{PortOperation}
use Rattle.tp_common.specs.declared.operation.PortOperation.TheVariants as operation
use Rattle.tp_judge.specs.declared.referee.line.MessageVerb.{MessageVerb}
use Rattle.tp_judge.specs.declared.referee.line.MessageVerb.TheVariants as fate
use Rattle.tp_judge.specs.LineTexts.{Letter, Told, begins, passed, operated, otherwise, ended, resulted}
use Rattle.tp_judge.specs.Tree.{names_of}
use Rattle.tp_judge.specs.declared.line.Mention.{Mention}
use Rattle.tp_judge.specs.declared.line.Act.{Act}
use Rattle.tp_judge.specs.declared.line.Act.TheVariants as act
use Rattle.tp_judge.specs.declared.line.IndexedLine.{IndexedLine}
use Rattle.tp_judge.specs.declared.trace.IndexedTrace.{IndexedTrace}
use Rattle.tp_judge.specs.Delivered.{IsJoined}
use Rattle.tp_judge.specs.declared.referee.tables.PortKey.{PortKey}
use Rattle.tp_judge.specs.declared.referee.tables.RouteKey.{RouteKey}
use Rattle.tp_judge.specs.declared.referee.tables.Tables.{Tables}

-- a line of a section: the component of the section, the line's number in the text, from 1, and what it says
pub record Stand : Type 0 where
  pub component : List ℕ
  pub number : ℕ
  pub told : Told

-- those of these lines that are in sections; the first line has this number, and is in this component's section if it
-- begins none
abbrev pub stands_from : List ℕ → ℕ → List Told → List Stand
stands_from name n [] = []
stands_from name n (begins other ∷ tolds) = stands_from other (n + 1) tolds
stands_from name n (resulted word ∷ tolds) = stands_from name (n + 1) tolds
stands_from name n (told ∷ tolds) =
    record { component = name; number = n; told = told } ∷ stands_from name (n + 1) tolds

-- the lines of the sections of a trace; only the result can come before the first section
abbrev pub stands_of : List Told → List Stand
stands_of tolds = stands_from [] 1 tolds

-- the component of this number has this name
abbrev pub IsComponentNumber : Tables → ℕ → List ℕ → Type 0
IsComponentNumber t component name = slice_get t.components component ≡ Some name

-- the port of the first number is that of the component of the second number, and has this name
pub record IsPortNumber (t : Tables) (port component : ℕ) (name : List ℕ) : Type 0 where
  pub word : ℕ
  pub there : slice_get t.ports.keys port ≡ Some (record { component = component; name = word })
  pub named : slice_get t.names word ≡ Some name

-- the message that a line mentions, between the components of these numbers: its route is that from the sender to the
-- port
pub record IsMention (t : Tables) (sender receiver : ℕ) (letter : Letter) (m : Mention) : Type 0 where
  pub port : IsPortNumber t m.port receiver letter.port
  pub route : slice_get t.routes.keys m.route ≡ Some (record { sender = sender; port = m.port })
  pub number : m.parcel.number ≡ letter.number
  pub message : slice_get t.messages m.parcel.message.0 ≡ Some letter.text

abbrev pub act_of : MessageVerb → Mention → Act
act_of fate.Sent m = act.Sent m
act_of fate.Came m = act.Came m
act_of fate.Took m = act.Took m
act_of fate.Found m = act.Found m
act_of fate.Dropped m = act.Dropped m
act_of fate.Left m = act.Left m

abbrev pub operation_act : PortOperation → ℕ → Act
operation_act operation.Start port = act.Started port
operation_act operation.Stop port = act.Stopped port
operation_act operation.Halt port = act.Halted port
operation_act operation.Clear port = act.Cleared port

-- the sender of a message that a line mentions in the section of `here`, with `other` at the other end
abbrev pub sender_of : MessageVerb → ℕ → ℕ → ℕ
sender_of fate.Sent here other = here
sender_of _ here other = other

-- the receiver of such a message
abbrev pub receiver_of : MessageVerb → ℕ → ℕ → ℕ
receiver_of fate.Sent here other = other
receiver_of _ here other = here

-- what a line in the section of the component of this number says about a message
pub record IsPassed (t : Tables) (here : ℕ) (fate : MessageVerb) (letter : Letter) (a : Act) : Type 0 where
  pub mention : Mention
  pub is : a ≡ act_of fate mention
  pub other : ℕ
  pub partner : IsComponentNumber t other letter.component
  pub mentioned : IsMention t (sender_of fate here other) (receiver_of fate here other) letter mention

-- an operation on a port of the component of this number
pub record IsOperated (t : Tables) (here : ℕ) (operation : PortOperation) (name : List ℕ) (a : Act) : Type 0 where
  pub port : ℕ
  pub is : a ≡ operation_act operation port
  pub there : IsPortNumber t port here name

-- what a line says, in the section of the component of this number
abbrev pub IsAct : Tables → ℕ → Told → Act → Type 0
IsAct t here (passed fate letter) a = IsPassed t here fate letter a
IsAct t here (operated operation name) a = IsOperated t here operation name a
IsAct t here otherwise a = a ≡ act.Else
IsAct t here (ended words) a = a ≡ act.End
IsAct t here _ a = a ≡ act.Other

-- the line of a section
pub record IsLine (t : Tables) (stand : Stand) (line : IndexedLine) : Type 0 where
  pub number : line.number ≡ stand.number
  pub section : IsComponentNumber t line.component stand.component
  pub says : IsAct t line.component stand.told line.act

-- no component, name, port, route or message has two numbers
pub record AreTablesDistinct (t : Tables) : Type 0 where
  pub components : AllPairs (λ a b. a ≢ b) t.components
  pub names : AllPairs (λ a b. a ≢ b) t.names
  pub ports : AllPairs (λ a b. a ≢ b) t.ports.keys
  pub routes : AllPairs (λ a b. a ≢ b) t.routes.keys
  pub messages : AllPairs (λ a b. a ≢ b) t.messages

-- for each route, whether both ends have a section
abbrev pub AreJoined : Tables → List Told → IndexedTrace → Type 0
AreJoined t tolds trace = (k : ℕ) (route : RouteKey) (port : PortKey) (sender receiver : List ℕ)
    → slice_get t.routes.keys k ≡ Some route → slice_get t.ports.keys route.port ≡ Some port
    → IsComponentNumber t route.sender sender → IsComponentNumber t port.component receiver
    → IsJoined trace k ↔ (Contains (names_of tolds) sender × Contains (names_of tolds) receiver)

-- **the numbering**: the lines of the sections in numbers, each of which stands for one component, port, route or
-- message. It leaves open only which number each has
pub record IsNumberingOf (tolds : List Told) (trace : IndexedTrace) : Type 0 where
  pub tables : Tables
  pub distinct : AreTablesDistinct tables
  pub lines : AllZip (IsLine tables) (stands_of tolds) trace.lines.items
  pub owners : trace.owners.items ≡ map (λ port. port.component) tables.ports.keys
  pub routes : length trace.joined.items ≡ length tables.routes.keys
  pub joined : AreJoined tables tolds trace
  pub components : trace.components ≡ length tables.components
  pub numbers : trace.numbers ≡ length tolds + 1
