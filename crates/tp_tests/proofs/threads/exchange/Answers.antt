-- The senders that come back are the inbox's.
use Rattle.std.proofs.Common.{sym, ◌∙◌, subst}
use Rattle.tp_inbox.specs.Ledgers.{Inbox, AreSenders}
use Rattle.tp_inbox.proofs.SenderListGrowth.{same_senders}
use Rattle.tp_tests.proofs.threads.exchange.Goals as goal

pub invariant_of-result : goal.invariant_of-result
invariant_of-result g c =
    let out = c.in_ok-children.ensures in
    let back = c.in_ok-senders.ensures in
    let senders = c.in_ok-senders.senders.items in
    subst (λ (i : Inbox). AreSenders i senders) (sym c.drain_some.ensures)
    (same_senders _ senders _ (back ∙ out) c.ends.invariant)
