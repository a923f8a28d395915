-- The inboxes of the first components are opened.
use Rattle.tp_exec.specs.OpenedWorkers.{AreOpened}
use Rattle.tp_exec.proofs.inboxes.open_inboxes.Given as goal

abbrev pub invariant-loop-place : goal.invariant-loop-place
invariant-loop-place l = AreOpened l.config l.place l.opened
