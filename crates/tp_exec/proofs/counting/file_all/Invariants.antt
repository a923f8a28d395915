-- The routes of the senders so far are filed.
use Rattle.tp_exec.proofs.RouteMessageCounts.{AreFiledBelow}
use Rattle.tp_exec.proofs.counting.file_all.Given as goal

abbrev pub invariant-loop-sender : goal.invariant-loop-sender
invariant-loop-sender l = AreFiledBelow l.sender-index l.senders l.counts
