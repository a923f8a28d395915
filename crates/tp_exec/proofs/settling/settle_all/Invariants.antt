-- What the rest comes to completes what has come of all.
use Rattle.std.proofs.Common.{◌++◌, All, List, map}
use Rattle.std.specs.List.{AllZip}
use Rattle.std.specs.Vec.Iter.{into_iter_items}
use Rattle.tp_exec.specs.declared.ended.EndedComponent.{EndedComponent}
use Rattle.tp_exec.specs.ReturnedSenders.{AreAtHand, HasEndedWithAll, IsIdleComponent, idle_of, log_at, links_to}
use Rattle.tp_exec.proofs.settling.settle_all.Given as goal

abbrev pub invariant-loop-idle : goal.invariant-loop-idle
invariant-loop-idle g l =
    let rest = into_iter_items l.idle-iterator in
    let logs = log_at l.fn.played.items in
    record {
      idle : All (IsIdleComponent l.fn.config) rest;
      held : AreAtHand logs l.hands.items (links_to rest);
      done : (es : List EndedComponent) → AllZip (HasEndedWithAll logs) rest es → AllZip (HasEndedWithAll logs) (map idle_of l.fn.played.items) (l.all.items ++ es);
    }
