-- The lines of a trace, gathered by ports.
use Rattle.std.specs.Prelude.{ℕ, Option, List, length}
use Rattle.std.specs.List.{AllZip}
use Rattle.std.specs.declared.vec.Vec.{Vec}
use Rattle.std.specs.declared.alloc.Global.{Global}
use Rattle.std.specs.Borrow.{Bor}
use Rattle.tp_judge.specs.declared.line.By.TheVariants as by
use Rattle.tp_judge.specs.declared.line.IndexedLine.{IndexedLine}
use Rattle.tp_judge.specs.declared.trace.IndexedTrace.{IndexedTrace}
use Rattle.tp_judge.specs.declared.ports.PortRows.{PortRows}
use Rattle.tp_judge.specs.LinesByNumber.{AreGathered, lines_at}
use Rattle.tp_judge.specs.Lawful.{IsCloserOf}

-- for each section, the number of the line that closes it; none if it is open
abbrev pub AreClosers : List (Vec (Bor IndexedLine) Global) → List (Option ℕ) → Type 0
AreClosers rows closers = AllZip (λ row closer. IsCloserOf (lines_at row.items) closer) rows closers

pub record ArePortRows (trace : IndexedTrace) (rows : PortRows) : Type 0 where
  pub events_are : AreGathered by.Port (length trace.owners.items) trace.lines.items rows.events.items
  pub left_are : AreGathered by.Left (length trace.owners.items) trace.lines.items rows.left.items
  pub closing_are : AreGathered by.Closing trace.components trace.lines.items rows.closing.items
  pub closers_are : AreClosers rows.closing.items rows.closers.items
