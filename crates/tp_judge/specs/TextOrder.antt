-- When everything in a trace happens in the order of the text.
use Rattle.std.specs.Prelude.{◌≡◌, ◌<◌, ℕ, Some, List, AllPairs, slice_get}
use Rattle.tp_judge.specs.declared.line.IndexedLine.{IndexedLine}
use Rattle.tp_judge.specs.declared.trace.IndexedTrace.{IndexedTrace}
use Rattle.tp_judge.specs.Before.{came_on, sent_on}
use Rattle.tp_judge.specs.Delivered.{IsJoined}

-- each line has a smaller number than those after it
abbrev pub AreAscending : List IndexedLine → Type 0
AreAscending lines = AllPairs (λ a b. a.number < b.number) lines

-- each of the first lines has a smaller number than the one at the same place among the others
abbrev pub StandBefore : List IndexedLine → List IndexedLine → Type 0
StandBefore before after = (k : ℕ) (a b : IndexedLine) → slice_get before k ≡ Some a → slice_get after k ≡ Some b → a.number < b.number

-- on the route, if both its ends have a section, each sending stands before its arrival
abbrev pub AreSentFirst : IndexedTrace → ℕ → Type 0
AreSentFirst trace route = IsJoined trace route → StandBefore (sent_on trace route) (came_on trace route)
