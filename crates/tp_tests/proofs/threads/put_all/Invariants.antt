-- It is the same sender, whatever it has put.
use Rattle.std.proofs.Common.{◌≡◌}
use Rattle.tp_inbox.specs.Ledgers.{end_of}
use Rattle.tp_tests.proofs.threads.put_all.Given as goal

abbrev pub invariant-loop-n : goal.invariant-loop-n
invariant-loop-n g l = end_of l.sender ≡ end_of l.fn.sender
