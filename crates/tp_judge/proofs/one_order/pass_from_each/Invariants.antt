-- Some order is gone through so far; either it grew, or the components before the next one can't go on.
use Rattle.std.proofs.Common.{◌≡◌, ◌<◌, ◌≤◌, ℕ, All, true, false, sum, slice_index}
use Rattle.tp_judge.specs.OrderProgress.{HasSize}
use Rattle.tp_judge.specs.Greedy.{CannotGoOn, IsProgress}
use Rattle.tp_judge.specs.Cursors.{AreCursorsOf}
use Rattle.tp_judge.proofs.one_order.pass_from_each.Given as goal

abbrev pub invariant-loop-c : goal.invariant-loop-c
invariant-loop-c g l = record {
  ready : All (λ x. x < g.H.Histories.size l.histories) l.ready.items;
  size : HasSize l.progress (g.H.Histories.size l.histories);
  cursors : AreCursorsOf (g.H.Histories.kinds l.histories) (g.H.Histories.size l.histories) l.progress l.cursors.items;
  progress : IsProgress (g.H.Histories.kinds l.histories) l.progress;
  grown : sum l.initial.progress.places.items ≤ sum l.progress.places.items;
  ahead : l.any ≡ true → sum l.initial.progress.places.items < sum l.progress.places.items;
  held : l.any ≡ false → (k : ℕ) → k < l.c → CannotGoOn (g.H.Histories.kinds l.histories) (slice_index l.progress.places.items)
      (slice_index l.progress.came.items) (slice_index l.progress.sent.items) k;
}
