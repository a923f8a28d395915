-- The places so far have their numbers.
use Rattle.std.proofs.Common.{◌≡◌, ◌<◌, ℕ}
use Rattle.tp_judge.specs.declared.line.Parcel.{Parcel}
use Rattle.tp_judge.specs.Delivered.{ParcelAt}
use Rattle.tp_judge.specs.LinesByNumber.{lines_at}
use Rattle.tp_judge.proofs.routes.misnumbered.Given as goal

abbrev pub invariant-loop-place : goal.invariant-loop-place
invariant-loop-place l = (k : ℕ) (p : Parcel) → k < l.place → ParcelAt (lines_at l.sent) k p → p.number ≡ k
