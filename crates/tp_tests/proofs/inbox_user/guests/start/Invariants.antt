-- The senders in the threads and those that are left are the ones that were given.
use Rattle.std.proofs.Common.{◌≡◌, ◌++◌, map}
use Rattle.std.specs.Vec.Iter.{into_iter_items}
use Rattle.tp_inbox.specs.Ledgers.{end_of}
use Rattle.tp_tests.proofs.inbox_user.guests.start.Given as goal

abbrev pub invariant-loop-sender : goal.invariant-loop-sender
invariant-loop-sender g l =
    let rest = into_iter_items l.sender-iterator in
    map (λ h. end_of h.promise.0.value) l.guests.items ++ map end_of rest ≡ map end_of l.fn.senders.items
