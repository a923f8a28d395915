-- With each turn the routes of one sender more are filed.
use Rattle.tp_exec.proofs.RouteMessageCounts.{below_next}
use Rattle.tp_exec.proofs.counting.file_all.Goals as goal

pub loop-sender-preserved : goal.loop-sender-preserved
loop-sender-preserved c =
    below_next c.args.senders.now c.sender-item.result c.loop-sender.sender-index c.loop-sender.counts c.file.new.counts c.loop-sender-test.true
    c.sender-item.is c.requires c.loop-sender.invariant c.in_ok-file.ensures.filed c.in_ok-file.ensures.others
