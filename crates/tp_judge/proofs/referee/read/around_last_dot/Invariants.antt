-- What stands after the place has no `.`.
use Rattle.std.proofs.Common.{◌≡◌, ◌≤◌, true, length, drop}
use Rattle.tp_common.specs.Cutting.{lacks}
use Rattle.tp_judge.proofs.referee.read.around_last_dot.Given as goal

abbrev pub invariant-loop-place : goal.invariant-loop-place
invariant-loop-place l = (l.place ≤ length l.word) × (lacks 46 (drop l.place l.word) ≡ true)

abbrev pub decreases-loop-place : goal.decreases-loop-place
decreases-loop-place l = l.place
