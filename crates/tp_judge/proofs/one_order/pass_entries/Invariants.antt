-- Some order is gone through so far, and two numbers at most were put into the list for each thing that was done.
use Rattle.std.proofs.Common.{◌<◌, ◌≤◌, ◌+◌, ◌-◌, ◌*◌, All, length, sum}
use Rattle.tp_judge.specs.OrderProgress.{HasSize}
use Rattle.tp_judge.specs.Greedy.{IsProgress, entries_of}
use Rattle.tp_judge.specs.Cursors.{AreCursorsOf}
use Rattle.tp_judge.proofs.one_order.pass_entries.Given as goal

abbrev pub invariant-loop-kind : goal.invariant-loop-kind
invariant-loop-kind g l = record {
  ready : All (λ x. x < g.H.Histories.size l.histories) l.ready.items;
  size : HasSize l.progress (g.H.Histories.size l.histories);
  cursors : AreCursorsOf (g.H.Histories.kinds l.histories) (g.H.Histories.size l.histories) l.progress l.cursors.items;
  progress : IsProgress (g.H.Histories.kinds l.histories) l.progress;
  grown : sum l.initial.progress.places.items ≤ sum l.progress.places.items;
  most : length l.ready.items + 2 * sum l.initial.progress.places.items ≤ length l.initial.ready.items + 2 * sum l.progress.places.items;
}

-- there are only so many things to do
abbrev pub decreases-loop-kind : goal.decreases-loop-kind
decreases-loop-kind g l =
    entries_of (g.H.Histories.kinds l.histories) (g.H.Histories.size l.histories) - sum l.progress.places.items
