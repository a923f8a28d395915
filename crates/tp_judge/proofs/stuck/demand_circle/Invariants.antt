-- The path so far, and the line ahead that it comes to.
use Rattle.std.proofs.Common.{◌≡◌, ◌==◌, ◌<◌, length, count_by}
use Rattle.tp_judge.specs.OneRun.{IsDemanded}
use Rattle.tp_judge.specs.Stuck.{HasCursors, IsAhead}
use Rattle.tp_judge.proofs.DemandPathsReachCircles.{IsPath}
use Rattle.tp_judge.proofs.stuck.demand_circle.Given as goal

abbrev pub invariant-loop-path : goal.invariant-loop-path
invariant-loop-path l = record {
  size : length l.places.items ≡ length l.histories.trace.now.lines.items;
  cursors : HasCursors l.histories l.progress l.cursors.items;
  ahead : IsAhead l.histories l.progress l.x;
  below : l.x < length l.histories.trace.now.lines.items;
  path : IsPath (IsDemanded l.histories.trace.now) (length l.histories.trace.now.lines.items) l.places.items l.path.items l.x;
}

abbrev pub decreases-loop-path : goal.decreases-loop-path
decreases-loop-path l = count_by (λ p. p == 0) l.places.items
