-- What was parted, and then the rest, is all.
use Rattle.std.proofs.Common.{◌≡◌, ◌++◌, map}
use Rattle.std.specs.Vec.Iter.{into_iter_items}
use Rattle.tp_exec.specs.ReturnedSenders.{idle_of, outbox_of}
use Rattle.tp_exec.proofs.returning.part_played.Given as goal

abbrev pub invariant-loop-one : goal.invariant-loop-one
invariant-loop-one l =
    let rest = into_iter_items l.one-iterator in
    record {
      idles : l.idles.items ++ map idle_of rest ≡ map idle_of l.fn.played.items;
      hands : map into_iter_items l.hands.items ++ map outbox_of rest ≡ map outbox_of l.fn.played.items;
    }
