-- What happens before what in a trace. A line is known by its number in the text.
use Rattle.std.specs.Prelude.{◌≡◌, ◌<◌, ℕ, Some, List, slice_get}
use Rattle.tp_judge.specs.declared.line.Parcel.{Parcel}
use Rattle.tp_judge.specs.declared.line.IndexedLine.{IndexedLine}
use Rattle.tp_judge.specs.declared.line.By.TheVariants as by
use Rattle.tp_judge.specs.declared.trace.IndexedTrace.{IndexedTrace}
use Rattle.tp_judge.specs.Lines.{lines_with}
use Rattle.tp_judge.specs.Delivered.{IsJoined, ParcelAt}

-- the lines of a section, and those of a route
abbrev pub section_of : IndexedTrace → ℕ → List IndexedLine
section_of trace component = lines_with by.Component component trace.lines.items

abbrev pub sent_on : IndexedTrace → ℕ → List IndexedLine
sent_on trace route = lines_with by.Sent route trace.lines.items

abbrev pub came_on : IndexedTrace → ℕ → List IndexedLine
came_on trace route = lines_with by.Came route trace.lines.items

-- the first line happens before the second
pub data LineHappensBefore (trace : IndexedTrace) : ℕ → ℕ → Type 0 where
  -- both are in one section, the first before the second
  earlier : (component j k : ℕ) (a b : IndexedLine) → component < trace.components → j < k
      → slice_get (section_of trace component) j ≡ Some a → slice_get (section_of trace component) k ≡ Some b
      → LineHappensBefore trace a.number b.number
  -- or the first is a sending, and the second is its arrival: on its route, with its number
  sent : (route j k : ℕ) (a b : IndexedLine) (p q : Parcel) → IsJoined trace route
      → slice_get (sent_on trace route) j ≡ Some a → slice_get (came_on trace route) k ≡ Some b
      → ParcelAt (sent_on trace route) j p → ParcelAt (came_on trace route) k q → p.number ≡ q.number
      → LineHappensBefore trace a.number b.number
  -- or there is a line between them
  between : (x y z : ℕ) → LineHappensBefore trace x y → LineHappensBefore trace y z → LineHappensBefore trace x z

-- **no circle**: no line happens before itself
abbrev pub NoCircle : IndexedTrace → Type 0
NoCircle trace = (n : ℕ) → LineHappensBefore trace n n → ⊥
