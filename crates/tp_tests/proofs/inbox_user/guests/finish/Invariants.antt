-- The senders that came back and those that are to come are the ones that were sent off.
use Rattle.std.proofs.Common.{◌≡◌, ◌++◌, map}
use Rattle.std.specs.Vec.Iter.{into_iter_items}
use Rattle.tp_inbox.specs.Ledgers.{end_of}
use Rattle.tp_tests.proofs.inbox_user.guests.finish.Given as goal

abbrev pub invariant-loop-guest : goal.invariant-loop-guest
invariant-loop-guest g l =
    let rest = into_iter_items l.guest-iterator in
    map end_of l.senders.items ++ map (λ h. end_of h.promise.0.value) rest ≡ map (λ h. end_of h.promise.0.value) l.fn.guests.items
