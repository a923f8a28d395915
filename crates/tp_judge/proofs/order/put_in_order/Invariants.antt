-- How far the list is done.
use Rattle.std.proofs.Common.{◌≡◌, ◌+◌, ◌-◌, length, sum}
use Rattle.tp_judge.specs.Progress.{IsOrderedUpTo}
use Rattle.tp_judge.proofs.order.put_in_order.Given as goal

abbrev pub invariant-loop-done : goal.invariant-loop-done
invariant-loop-done l = record {
  size : length l.waits.items ≡ l.count;
  done : IsOrderedUpTo l.demands l.waits.items l.order.items l.done;
}

abbrev pub decreases-loop-done : goal.decreases-loop-done
decreases-loop-done l = sum l.waits.items + length l.order.items - l.done
