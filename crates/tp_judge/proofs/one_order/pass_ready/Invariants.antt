-- Some order is gone through so far, and those who are to be looked at are components.
use Rattle.std.proofs.Common.{◌<◌, ◌≤◌, ◌+◌, ◌-◌, ◌*◌, All, length, sum}
use Rattle.tp_judge.specs.OrderProgress.{HasSize}
use Rattle.tp_judge.specs.Greedy.{IsProgress, entries_of}
use Rattle.tp_judge.specs.Cursors.{AreCursorsOf}
use Rattle.tp_judge.proofs.one_order.pass_ready.Given as goal

abbrev pub invariant-loop-c : goal.invariant-loop-c
invariant-loop-c g l = record {
  ready : All (λ x. x < g.H.Histories.size l.histories) l.ready.items;
  size : HasSize l.progress (g.H.Histories.size l.histories);
  cursors : AreCursorsOf (g.H.Histories.kinds l.histories) (g.H.Histories.size l.histories) l.progress l.cursors.items;
  progress : IsProgress (g.H.Histories.kinds l.histories) l.progress;
  grown : sum l.initial.progress.places.items ≤ sum l.progress.places.items;
}

-- each thing that is done puts two numbers at most into the list, and there are only so many to do
abbrev pub decreases-loop-c : goal.decreases-loop-c
decreases-loop-c g l =
    2 * (entries_of (g.H.Histories.kinds l.histories) (g.H.Histories.size l.histories) - sum l.progress.places.items) + length l.ready.items
