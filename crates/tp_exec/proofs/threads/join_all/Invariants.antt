-- The components that came back and those not joined yet are all of them.
use Rattle.std.proofs.Common.{◌≡◌, ◌≤◌, ◌+◌, ◌++◌, All, length, map, false, vec_capacity}
use Rattle.std.specs.Vec.Iter.{into_iter_items}
use Rattle.tp_exec.specs.Returns.{HasReturned, identities_of}
use Rattle.tp_exec.specs.Children.{IsChild, identity_at}
use Rattle.tp_exec.proofs.threads.join_all.Given as goal

abbrev pub invariant-loop-child : goal.invariant-loop-child
invariant-loop-child g l =
    let rest = into_iter_items l.child-iterator in
    record {
      identities : l.is_out_of_memory ≡ false → identities_of l.back.items ++ map identity_at rest ≡ map identity_at l.fn.children.items;
      returned : All (HasReturned l.fn.test_case) l.back.items;
      children : All (IsChild l.fn.test_case) rest;
      space : length l.back.items + length rest ≤ vec_capacity l.back;
    }
