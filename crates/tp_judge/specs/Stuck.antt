-- What holds when the search for one order of the lines of a trace is stuck. A line is ahead if the search hasn't passed
-- it: it is at the place reached in its section, or after this place.
use Rattle.std.specs.Prelude.{ℕ, ◌<◌, ◌≤◌, List, length, slice_index, take}
use Rattle.std.specs.declared.vec.Vec.{Vec}
use Rattle.std.specs.declared.alloc.Global.{Global}
use Rattle.tp_judge.specs.declared.line.Mention.{Mention}
use Rattle.tp_judge.specs.declared.progress.ArrivalCursor.{ArrivalCursor}
use Rattle.tp_judge.specs.declared.progress.OrderProgress.{OrderProgress}
use Rattle.tp_judge.specs.declared.sections.TraceHistories.{TraceHistories}
use Rattle.tp_judge.specs.declared.trace.IndexedTrace.{IndexedTrace}
use Rattle.tp_judge.specs.Cursors.{AreCursorsOf}
use Rattle.tp_judge.specs.Delivered.{Delivered}
use Rattle.tp_judge.specs.Greedy.{IsStuckSearch}
use Rattle.tp_judge.specs.Kinds.{Kinds, came_in}
use Rattle.tp_judge.specs.Lawful.{AreLinesRouted, AreWithin}
use Rattle.tp_judge.specs.OneRun.{ComesAt, IsDemanded, IsOwnAt}
use Rattle.tp_judge.specs.Sendings.{AreSendingRows}
use Rattle.tp_judge.specs.TraceKinds.{AreSections, kinds_of}

abbrev pub kinds_in : TraceHistories → Kinds Mention
kinds_in histories = kinds_of histories.trace.now histories.sections.items

-- the search through the sections of a trace whose routes are lawful is stuck
pub record IsStuckAt (histories : TraceHistories) (progress : OrderProgress) : Type 0 where
  pub within : AreWithin histories.trace.now
  pub routed : AreLinesRouted histories.trace.now
  pub delivered : Delivered histories.trace.now
  pub sections : AreSections histories.trace.now (length histories.trace.now.lines.items) histories.sections.items
  pub state : IsStuckSearch (kinds_in histories) (length histories.sections.items) progress

abbrev pub HasRows : TraceHistories → List (Vec ℕ Global) → Type 0
HasRows histories rows = AreSendingRows histories.trace.now (length histories.trace.now.lines.items) rows

abbrev pub HasCursors : TraceHistories → OrderProgress → List ArrivalCursor → Type 0
HasCursors histories progress cursors =
    AreCursorsOf (kinds_in histories) (length histories.sections.items) progress cursors

-- the line is ahead, and says what its component did itself
pub record IsAhead (histories : TraceHistories) (progress : OrderProgress) (place : ℕ) : Type 0 where
  pub component : ℕ
  pub own : IsOwnAt histories.trace.now component place
  pub from : slice_index progress.places.items component ≤ place

-- the message comes to the component, after everything that the passed lines sent there
pub record IsDue (histories : TraceHistories) (progress : OrderProgress) (component : ℕ) (m : Mention) : Type 0 where
  pub place : ℕ
  pub comes : ComesAt histories.trace.now component place m
  pub after : slice_index progress.sent.items component ≤ length (came_in (take place (kinds_in histories component)))

-- the line is the first from this place on that says what the component did itself
pub record IsNextOwn (trace : IndexedTrace) (component from next : ℕ) : Type 0 where
  pub own : IsOwnAt trace component next
  pub low : from ≤ next
  pub none : (q : ℕ) → from ≤ q → q < next → IsOwnAt trace component q → ⊥

-- the line is ahead, and must come before the component's next line that says what it did itself
pub record HoldsBack (histories : TraceHistories) (progress : OrderProgress) (place component : ℕ) : Type 0 where
  pub ahead : IsAhead histories progress place
  pub before : (next : ℕ) → IsNextOwn histories.trace.now component (slice_index progress.places.items component) next
      → IsDemanded histories.trace.now place next
