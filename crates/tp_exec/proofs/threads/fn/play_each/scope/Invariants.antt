-- The components that have begun and those to come are all of them, and there is space for each.
use Rattle.std.proofs.Common.{◌≡◌, ◌≤◌, ◌+◌, ◌++◌, [], All, length, map, false, vec_capacity}
use Rattle.std.specs.Vec.Iter.{into_iter_items}
use Rattle.tp_exec.specs.Returns.{IsYetToBegin, identity_of}
use Rattle.tp_exec.specs.Children.{IsChild, identity_at}
use Rattle.tp_exec.proofs.threads.fn.play_each.scope.Given as goal

abbrev pub invariant-loop-worker : goal.invariant-loop-worker
invariant-loop-worker g l =
    let rest = into_iter_items l.worker-iterator in
    record {
      identities : l.refused ≡ false → map identity_at l.children.items ++ map identity_of rest ≡ map identity_of (into_iter_items l.initial.worker-iterator);
      children : All (IsChild l.test_case.now) l.children.items;
      workers : All (IsYetToBegin l.test_case.now) rest;
      space : length l.children.items + length rest ≤ vec_capacity l.children;
      empty : l.back.items ≡ [];
      list : length l.children.items + length rest ≤ vec_capacity l.back;
    }
