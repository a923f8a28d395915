-- What makes the ports of a trace lawful, and where they aren't.
use Rattle.std.specs.Prelude.{◌≡◌, ◌≢◌, ◌+◌, ◌<◌, ◌^◌, ◌++◌, ◌⊎◌, ℕ, Option, Some, None, List, [], All, take, length}
use Rattle.std.specs.Prelude.{slice_get, slice_index, OnSome, ⊤}
use Rattle.tp_common.specs.declared.event.Env.{Env}
use Rattle.tp_common.specs.declared.event.Event.{Event}
use Rattle.tp_queue.specs.History.{Lawful, queued}
use Rattle.tp_judge.specs.declared.line.MessageId.{MessageId}
use Rattle.tp_judge.specs.declared.line.Act.{Act}
use Rattle.tp_judge.specs.declared.line.Act.TheVariants as act
use Rattle.tp_judge.specs.declared.line.IndexedLine.{IndexedLine}
use Rattle.tp_judge.specs.declared.line.By.TheVariants as by
use Rattle.tp_judge.specs.declared.place.Rule.TheVariants as rule
use Rattle.tp_judge.specs.declared.place.UnlawfulPlace.{UnlawfulPlace}
use Rattle.tp_judge.specs.declared.trace.IndexedTrace.{IndexedTrace}
use Rattle.tp_judge.specs.Lines.{HasKeyBelow, left_of, lines_with}
use Rattle.tp_judge.specs.Rules.{history_of, left_in, IsBroken}

-- if the section is closed, the messages reported as left are those that are queued
abbrev pub IsToldLeft : List (Event MessageId) → List IndexedLine → List IndexedLine → Type 0
IsToldLeft h left closing = OnSome (slice_get closing 0) (left_in left ≡ queued h)

-- **a port**: its events are a lawful history, and the messages reported as left are those that this history leaves
pub record IsLawfulPort (events left closing : List IndexedLine) : Type 0 where
  pub lawful : Lawful (history_of events)
  pub told_left : IsToldLeft (history_of events) left closing

-- the messages that these lines report as left are the first of those that are queued
abbrev pub IsToldFirst : List (Event MessageId) → List IndexedLine → Type 0
IsToldFirst h left = (rest : List (Env MessageId)) × (left_in left ++ rest ≡ queued h)

-- the first line that reports as left a message that isn't queued at its place
pub record IsLeftWrong (h : List (Event MessageId)) (left closing : List IndexedLine) (place : UnlawfulPlace) : Type 0 where
  pub closer : IndexedLine
  pub closed : slice_get closing 0 ≡ Some closer
  pub before : ℕ
  pub line : IndexedLine
  pub stands : slice_get left before ≡ Some line
  pub told : place.line ≡ line.number
  pub right : IsToldFirst h (take before left)
  pub env : Env MessageId
  pub says : left_of line.act ≡ Some env
  pub wrong : slice_get (queued h) (length (left_in (take before left))) ≢ Some env

-- none of the lines before this place says that the component ended
abbrev pub IsNoEndBefore : List IndexedLine → ℕ → Type 0
IsNoEndBefore closing end = (k : ℕ) (line : IndexedLine) → k < end → slice_get closing k ≡ Some line → line.act ≢ act.End

-- the first line that says that the component ended, or the last line if none does
pub record IsCloser (closing : List IndexedLine) (line : IndexedLine) : Type 0 where
  pub place : ℕ
  pub at : slice_get closing place ≡ Some line
  pub none_before : IsNoEndBefore closing place
  pub which : (line.act ≡ act.End) ⊎ (IsNoEndBefore closing (length closing) × (place + 1 ≡ length closing))

abbrev pub IsCloserNumber : List IndexedLine → ℕ → Type 0
IsCloserNumber closing number = (line : IndexedLine) × IsCloser closing line × (number ≡ line.number)

-- the number of the line that closes the section; none if the section is open
abbrev pub IsCloserOf : List IndexedLine → Option ℕ → Type 0
IsCloserOf closing None = closing ≡ []
IsCloserOf closing (Some number) = IsCloserNumber closing number

-- the messages reported as left are queued, and more are queued than these; the place is the line that closes the
-- section
pub record IsLeftMissing (h : List (Event MessageId)) (left closing : List IndexedLine) (place : UnlawfulPlace) : Type 0 where
  pub closes : IsCloserNumber closing place.line
  pub right : IsToldFirst h left
  pub missing : length (left_in left) < length (queued h)

-- the messages left are reported wrongly
pub record IsLeftBroken (h : List (Event MessageId)) (left closing : List IndexedLine) (place : UnlawfulPlace) : Type 0 where
  pub rule_is : place.rule ≡ rule.Left
  pub how : IsLeftWrong h left closing place ⊎ IsLeftMissing h left closing place

-- the first place at which the port isn't lawful: the first line that breaks a rule; or, if there is none, the first at
-- which the messages left are reported wrongly
abbrev pub IsUnlawfulPort : List IndexedLine → List IndexedLine → List IndexedLine → UnlawfulPlace → Type 0
IsUnlawfulPort events left closing place =
    IsBroken events place ⊎ (Lawful (history_of events) × IsLeftBroken (history_of events) left closing place)

-- each line's numbers are among those of the trace
pub record AreWithin (trace : IndexedTrace) : Type 0 where
  pub owners : All (λ owner. owner < trace.components) trace.owners.items
  pub events : All (HasKeyBelow by.Port (length trace.owners.items)) trace.lines.items
  pub left : All (HasKeyBelow by.Left (length trace.owners.items)) trace.lines.items
  pub closing : All (HasKeyBelow by.Closing trace.components) trace.lines.items
  pub sent : All (HasKeyBelow by.Sent (length trace.joined.items)) trace.lines.items
  pub came : All (HasKeyBelow by.Came (length trace.joined.items)) trace.lines.items
  pub sections : All (HasKeyBelow by.Component trace.components) trace.lines.items
  pub numbers : All (λ line. line.number < trace.numbers) trace.lines.items
  pub few : trace.numbers < 2 ^ 32

-- a sending or an arrival names a route with the port at the route's end, and an arrival is in the section of the
-- component that the port belongs to. `ports` has the port at the end of each route
abbrev pub IsRoutedAct : IndexedTrace → List ℕ → ℕ → Act → Type 0
IsRoutedAct trace ports component (act.Sent m) = m.port ≡ slice_index ports m.route
IsRoutedAct trace ports component (act.Came m) =
    (m.port ≡ slice_index ports m.route) × (component ≡ slice_index trace.owners.items m.port)
IsRoutedAct trace ports component _ = ⊤

abbrev pub IsRouted : IndexedTrace → List ℕ → IndexedLine → Type 0
IsRouted trace ports line = IsRoutedAct trace ports line.component line.act

-- each line names its route and port in this way
pub record AreLinesRouted (trace : IndexedTrace) : Type 0 where
  pub ports : List ℕ
  pub each : All (IsRouted trace ports) trace.lines.items

-- the port is lawful, by its events, its lines of messages left, and the lines that close its component's section
abbrev pub IsLawfulAt : IndexedTrace → ℕ → Type 0
IsLawfulAt trace port = IsLawfulPort (lines_with by.Port port trace.lines.items)
    (lines_with by.Left port trace.lines.items)
    (lines_with by.Closing (slice_index trace.owners.items port) trace.lines.items)

abbrev pub IsUnlawfulAt : IndexedTrace → ℕ → UnlawfulPlace → Type 0
IsUnlawfulAt trace port place = IsUnlawfulPort (lines_with by.Port port trace.lines.items)
    (lines_with by.Left port trace.lines.items)
    (lines_with by.Closing (slice_index trace.owners.items port) trace.lines.items) place

-- **all ports are lawful**
abbrev pub LawfulPorts : IndexedTrace → Type 0
LawfulPorts trace = (port : ℕ) → port < length trace.owners.items → IsLawfulAt trace port

-- the first place at which some port isn't lawful
abbrev pub IsPortPlace : IndexedTrace → UnlawfulPlace → Type 0
IsPortPlace trace place = (port : ℕ) × (port < length trace.owners.items) × IsUnlawfulAt trace port place
