-- What makes a trace one run: whether all that its components did can have happened one after another, each message in
-- its queue at once when it was sent (ES 201 873-4). A line is known by its place in the trace.
--
-- Four lawful traces. Each line begins with its place and its component.
--
--     0  a  sent b.p 0 question      One run, by the order 0 4 5 2. When b takes the question (4), all that was sent
--     1  a  came p b 0 answer        to it so far has come (3). The same is true when a takes the answer (2), which
--     2  a  took p b 0 answer        was sent earlier (5).
--     3  b  came p a 0 question
--     4  b  took p a 0 question
--     5  b  sent a.p 0 answer
--
--     0  a  sent b.p 0 early         Delayed. `early` was sent (0) before `go` (1), which c took (3) before it sent
--     1  a  sent c.p 0 go            `late` (4), which b took (6). But when b looked at its ports (6), `early` hadn't
--     2  c  came p a 0 go            come (7), which demands that 6 comes before 0. The lines 0 1 3 4 6 are a circle.
--     3  c  took p a 0 go
--     4  c  sent b.q 0 late
--     5  b  came q c 0 late
--     6  b  took q c 0 late
--     7  b  came p a 0 early
--
--     0  a  sent a.p 0 note          Delayed. When the `else` looked (1), the note had been sent, but hadn't come (2).
--     1  a  else
--     2  a  came p a 0 note
--
--     0  b  else                     One run, by the order 0 2: the `else` looked before the call was sent.
--     1  b  came p a 0 call
--     2  a  sent b.p 0 call
use Rattle.std.specs.Prelude.{◌≡◌, ◌<◌, ◌≤◌, ◌==◌, ◌&&◌, ℕ, Bool, true, false, Option, Some, None, List}
use Rattle.std.specs.Prelude.{All, Contains, cond, length, take, slice_get, slice_index, option_and_then, unwrap_or}
use Rattle.std.specs.List.{filter_map}
use Rattle.tp_judge.specs.Circle.{IsCircleOf}
use Rattle.tp_judge.specs.OneOrder.{HasOneOrder, Histories, IsOrderOf}
use Rattle.tp_judge.specs.declared.line.Mention.{Mention}
use Rattle.tp_judge.specs.declared.line.Act.{Act}
use Rattle.tp_judge.specs.declared.line.Act.TheVariants as act
use Rattle.tp_judge.specs.declared.line.IndexedLine.{IndexedLine}
use Rattle.tp_judge.specs.declared.one_run.OneRun.{OneRun}
use Rattle.tp_judge.specs.declared.one_run.OneRun.TheVariants as answer
use Rattle.tp_judge.specs.declared.trace.IndexedTrace.{IndexedTrace}
use Rattle.tp_judge.specs.Delivered.{IsJoined}

-- whether the line says what its component did itself, and not what came to it or was left
abbrev pub is_own : Act → Bool
is_own (act.Came m) = false
is_own (act.Left m) = false
is_own _ = true

-- whether its component looked at ports
abbrev pub is_looking : Act → Bool
is_looking (act.Sent m) = false
is_looking (act.Came m) = false
is_looking (act.Took m) = true
is_looking (act.Found m) = true
is_looking (act.Dropped m) = true
is_looking (act.Left m) = false
is_looking (act.Cleared port) = true
is_looking (act.Started port) = true
is_looking (act.Stopped port) = true
is_looking (act.Halted port) = true
is_looking act.Else = true
is_looking act.End = false
is_looking act.Other = false

abbrev pub sent_mention : Act → Option Mention
sent_mention (act.Sent m) = Some m
sent_mention _ = None

abbrev pub came_mention : Act → Option Mention
came_mention (act.Came m) = Some m
came_mention _ = None

-- whether both ends of the message's route have a section
abbrev pub is_joined : IndexedTrace → Mention → Bool
is_joined trace m = unwrap_or (slice_get trace.joined.items m.route) false

-- the message, where it's on such a route and for this component
abbrev pub kept_for : IndexedTrace → ℕ → ℕ → Mention → Option Mention
kept_for trace component receiver m = cond (is_joined trace m && (receiver == component)) (Some m) None

-- what the line sends to a port of this component
abbrev pub sent_to : IndexedTrace → ℕ → IndexedLine → Option Mention
sent_to trace component line =
    option_and_then (λ m. kept_for trace component (slice_index trace.owners.items m.port) m) (sent_mention line.act)

-- what came by the line, in the section of this component
abbrev pub came_to : IndexedTrace → ℕ → IndexedLine → Option Mention
came_to trace component line =
    option_and_then (λ m. kept_for trace component line.component m) (came_mention line.act)

-- the line at this place
abbrev pub LineAt : IndexedTrace → ℕ → IndexedLine → Type 0
LineAt trace place line = slice_get trace.lines.items place ≡ Some line

-- what the line at this place sends to the component
abbrev pub sent_from : IndexedTrace → ℕ → ℕ → Option Mention
sent_from trace component place = option_and_then (sent_to trace component) (slice_get trace.lines.items place)

-- what came in the component's section before this place
abbrev pub all_came_to : IndexedTrace → ℕ → ℕ → List Mention
all_came_to trace component place = filter_map (came_to trace component) (take place trace.lines.items)

-- at this place stands a line of the component's section, and what it says is so
pub record IsLineOf (trace : IndexedTrace) (says : Act → Type 0) (component place : ℕ) : Type 0 where
  pub line : IndexedLine
  pub at : LineAt trace place line
  pub within : line.component ≡ component
  pub is : says line.act

-- a line of the component's section that says what it did itself
abbrev pub IsOwnAt : IndexedTrace → ℕ → ℕ → Type 0
IsOwnAt trace component place = IsLineOf trace (λ a. is_own a ≡ true) component place

-- one with which it looked at ports
abbrev pub IsLookAt : IndexedTrace → ℕ → ℕ → Type 0
IsLookAt trace component place = IsLineOf trace (λ a. is_looking a ≡ true) component place

-- the component of the line, 0 where there is none
abbrev pub component_of : Option IndexedLine → ℕ
component_of None = 0
component_of (Some line) = line.component

abbrev pub component_at : IndexedTrace → ℕ → ℕ
component_at trace place = component_of (slice_get trace.lines.items place)

-- what the lines say of what components did: a line is known by its place, a message by all that is told of it
abbrev pub histories_of : IndexedTrace → Histories ℕ Mention
histories_of trace = record {
  component = component_at trace;
  IsOwn = λ place. IsOwnAt trace (component_at trace place) place;
  IsEarlier = λ j k. (component_at trace j ≡ component_at trace k) × (j < k);
  IsLook = λ place. IsLookAt trace (component_at trace place) place;
  sent_to = sent_from trace;
  came_before = λ place. all_came_to trace (component_at trace place) place;
  came = λ component. all_came_to trace component (length trace.lines.items);
}

-- **a run**: an order of all lines that say what components did themselves, which gives the sections
abbrev pub IsRun : IndexedTrace → List ℕ → Type 0
IsRun trace order = IsOrderOf (histories_of trace) order

-- **one run**: there is such an order
abbrev pub IsOneRun : IndexedTrace → Type 0
IsOneRun trace = HasOneOrder (histories_of trace)

-- the message is sent at this place
pub record IsSentAt (trace : IndexedTrace) (place : ℕ) (m : Mention) : Type 0 where
  pub line : IndexedLine
  pub at : LineAt trace place line
  pub is : line.act ≡ act.Sent m

-- it comes there, to this component, by a route whose ends both have a section
abbrev pub ComesAt : IndexedTrace → ℕ → ℕ → Mention → Type 0
ComesAt trace component place m = IsLineOf trace (λ a. (a ≡ act.Came m) × IsJoined trace m.route) component place

-- the line at the first place demands of a run that the second place comes before the third
pub data IsDemandedAt (trace : IndexedTrace) : ℕ → ℕ → ℕ → Type 0 where
  -- the lines of a section keep their order
  in_section : (component j k : ℕ) → j < k → IsOwnAt trace component j → IsOwnAt trace component k
      → IsDemandedAt trace k j k
  -- what came before a line was sent before it
  seen_before : (component j k s : ℕ) (m : Mention) → j < k → ComesAt trace component j m → IsSentAt trace s m
      → IsOwnAt trace component k → IsDemandedAt trace k s k
  -- what came after a line that looks was sent after it
  unseen_before : (component j k s : ℕ) (m : Mention) → j < k → IsLookAt trace component j
      → ComesAt trace component k m → IsSentAt trace s m → IsDemandedAt trace k j s
  -- what came to a component was sent in the order in which it came
  in_turn : (component j k s t : ℕ) (m n : Mention) → j < k → ComesAt trace component j m → IsSentAt trace s m
      → ComesAt trace component k n → IsSentAt trace t n → IsDemandedAt trace k s t

-- some line demands it
abbrev pub IsDemanded : IndexedTrace → ℕ → ℕ → Type 0
IsDemanded trace x y = (k : ℕ) × IsDemandedAt trace k x y

-- the first of these numbers, by their size
abbrev pub IsLeastOf : List ℕ → ℕ → Type 0
IsLeastOf xs least = Contains xs least × All (λ x. least ≤ x) xs

-- a circle of demands: each of these places has to come before the next, and the last before the first
abbrev pub IsDemandCircle : IndexedTrace → List ℕ → Type 0
IsDemandCircle trace circle = IsCircleOf (IsDemanded trace) circle

-- the trace isn't one run, and the line of this number is the first, in the order of the text, of a circle of the
-- demands
pub record IsDelayedAt (trace : IndexedTrace) (number : ℕ) : Type 0 where
  pub none : IsOneRun trace → ⊥
  pub circle : List ℕ
  pub is_circle : IsDemandCircle trace circle
  pub place : ℕ
  pub first : IsLeastOf circle place
  pub line : IndexedLine
  pub at : LineAt trace place line
  pub told : number ≡ line.number

-- what is said of a trace whose routes are lawful
abbrev pub IsOneRunAnswer : IndexedTrace → OneRun → Type 0
IsOneRunAnswer trace answer.OneRun = IsOneRun trace
IsOneRunAnswer trace (answer.Delayed number) = IsDelayedAt trace number
