-- Some order is gone through so far.
use Rattle.std.proofs.Common.{◌<◌, ◌-◌, All, sum}
use Rattle.tp_judge.specs.OrderProgress.{HasSize}
use Rattle.tp_judge.specs.Greedy.{IsProgress, entries_of}
use Rattle.tp_judge.specs.Cursors.{AreCursorsOf}
use Rattle.tp_judge.proofs.one_order.pass_until_stuck.Given as goal

abbrev pub invariant-loop-ready : goal.invariant-loop-ready
invariant-loop-ready g l = record {
  ready : All (λ x. x < g.H.Histories.size l.histories) l.ready.items;
  size : HasSize l.progress (g.H.Histories.size l.histories);
  cursors : AreCursorsOf (g.H.Histories.kinds l.histories) (g.H.Histories.size l.histories) l.progress l.cursors.items;
  progress : IsProgress (g.H.Histories.kinds l.histories) l.progress;
}

-- there are only so many things to do
abbrev pub decreases-loop-ready : goal.decreases-loop-ready
decreases-loop-ready g l =
    entries_of (g.H.Histories.kinds l.histories) (g.H.Histories.size l.histories) - sum l.progress.places.items
