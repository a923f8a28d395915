-- None of the numbers so far is less, and it is one of them all.
use Rattle.std.proofs.Common.{◌≤◌, take}
use Rattle.std.specs.Prelude.{All, Contains}
use Rattle.tp_judge.proofs.circles.least.Given as goal

abbrev pub invariant-loop-x : goal.invariant-loop-x
invariant-loop-x l = record { among : Contains l.xs l.least; below : All (λ x. l.least ≤ x) (take l.x-index l.xs) }
