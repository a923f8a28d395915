-- The thread that is started has the next sender.
use Rattle.std.proofs.Common.{ap}
use Rattle.tp_inbox.specs.Ledgers.{end_of}
use Rattle.tp_inbox.proofs.SenderListGrowth.{moved}
use Rattle.tp_tests.proofs.inbox_user.guests.start.Goals as goal

pub loop-sender-preserved : goal.loop-sender-preserved
loop-sender-preserved g c =
    let was = c.loop-sender.invariant in
    let steps = c.in-Some.ensures.steps.0 in
    let pushed = c.in_ok-push.ensures.items in
    let same = c.in_ok-send_off.ensures in
    moved _ _ _ _ _ _ _ _ _ pushed steps (ap end_of same) was
