-- The sender that comes back is the one that went into the thread.
use Rattle.tp_inbox.proofs.SenderListGrowth.{moved}
use Rattle.tp_tests.proofs.inbox_user.guests.finish.Goals as goal

pub loop-guest-preserved : goal.loop-guest-preserved
loop-guest-preserved g c =
    let was = c.loop-guest.invariant in
    let steps = c.in-Some.ensures.steps.0 in
    let pushed = c.in_ok-push.ensures.items in
    let kept = c.join.ensures in
    moved _ _ _ _ _ _ _ _ _ pushed steps kept was
