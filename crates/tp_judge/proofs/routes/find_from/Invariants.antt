-- Nothing came with it at the places so far.
use Rattle.std.proofs.Common.{◌≢◌, ◌<◌, ◌≤◌, ℕ}
use Rattle.tp_judge.specs.declared.line.Parcel.{Parcel}
use Rattle.tp_judge.specs.Delivered.{ParcelAt}
use Rattle.tp_judge.specs.LinesByNumber.{lines_at}
use Rattle.tp_judge.proofs.routes.find_from.Given as goal

abbrev pub invariant-loop-place : goal.invariant-loop-place
invariant-loop-place l =
    (k : ℕ) (p : Parcel) → l.from ≤ k → k < l.place → ParcelAt (lines_at l.came) k p → p.number ≢ l.number
