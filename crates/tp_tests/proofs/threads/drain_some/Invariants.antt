-- The inbox stays the same.
use Rattle.std.proofs.Common.{◌≡◌}
use Rattle.tp_tests.proofs.threads.drain_some.Given as goal

abbrev pub invariant-loop : goal.invariant-loop
invariant-loop g l = l.mailbox.0.inbox ≡ l.initial.mailbox.0.inbox
