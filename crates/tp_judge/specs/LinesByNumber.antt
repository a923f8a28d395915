-- Lines that were gathered by a number of theirs.
use Rattle.std.specs.Prelude.{◌≡◌, ◌<◌, ℕ, List, length, map, slice_index_or}
use Rattle.std.specs.declared.vec.Vec.{Vec}
use Rattle.std.specs.declared.alloc.Global.{Global}
use Rattle.std.specs.Borrow.{Bor}
use Rattle.tp_judge.specs.declared.line.IndexedLine.{IndexedLine}
use Rattle.tp_judge.specs.declared.line.By.{By}
use Rattle.tp_judge.specs.Lines.{lines_with}

-- the lines that these references point to
abbrev pub lines_at : List (Bor IndexedLine) → List IndexedLine
lines_at lines = map (λ line. line.now) lines

-- for each number below the count a row, with the lines that have it
pub record AreGathered (by : By) (count : ℕ) (lines : List IndexedLine) (rows : List (Vec (Bor IndexedLine) Global)) : Type 0 where
  pub size : length rows ≡ count
  pub each : (key : ℕ) (row : Vec (Bor IndexedLine) Global) → key < count
      → lines_at (slice_index_or rows key row).items ≡ lines_with by key lines
