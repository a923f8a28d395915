-- It is the same sender, whatever it has put.
use Rattle.std.proofs.Common.{◌≡◌}
use Rattle.tp_inbox.specs.Ledgers.{end_of}
use Rattle.tp_tests.proofs.inbox_user.guests.orders.Given as goal

abbrev pub invariant-loop-number : goal.invariant-loop-number
invariant-loop-number g l = end_of l.sender ≡ end_of l.fn.sender
