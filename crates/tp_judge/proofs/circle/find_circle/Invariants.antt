-- The path so far, and the number that it comes to, which waits.
use Rattle.std.proofs.Common.{◌≡◌, ◌==◌, length, count_by}
use Rattle.tp_judge.specs.Circle.{IsDemandedBefore}
use Rattle.tp_judge.specs.AfterOrdering.{IsWaiting}
use Rattle.tp_judge.proofs.DemandPathsReachCircles.{IsPath}
use Rattle.tp_judge.proofs.circle.find_circle.Given as goal

abbrev pub invariant-loop-path : goal.invariant-loop-path
invariant-loop-path l = record {
  size : length l.places.items ≡ length l.waits;
  waits : IsWaiting l.waits l.x;
  path : IsPath (IsDemandedBefore l.demands) (length l.waits) l.places.items l.path.items l.x;
}

abbrev pub decreases-loop-path : goal.decreases-loop-path
decreases-loop-path l = count_by (λ p. p == 0) l.places.items
