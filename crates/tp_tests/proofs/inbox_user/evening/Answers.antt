-- The senders that come back are the inbox's.
use Rattle.std.proofs.Common.{sym, ◌∙◌, subst}
use Rattle.tp_inbox.specs.Ledgers.{Inbox, AreSenders}
use Rattle.tp_inbox.proofs.SenderListGrowth.{same_senders}
use Rattle.tp_tests.proofs.inbox_user.evening.Goals as goal

pub gather-requires : goal.gather-requires
gather-requires g c =
    let out = c.in_ok-guests.ensures in
    let back = c.in_ok-senders.ensures in
    let senders = c.in_ok-senders.senders.items in
    subst (λ (i : Inbox). AreSenders i senders) (sym c.in_ok-drain.ensures.inbox)
    (same_senders _ senders _ (back ∙ out) c.in_ok-owner.ensures.joins)
