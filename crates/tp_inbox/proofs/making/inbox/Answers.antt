-- The senders are those of the inbox that the owner is of.
use Rattle.std.proofs.Common.{subst, sym}
use Rattle.std.specs.Arc.{arc_value}
use Rattle.tp_inbox.specs.InboxEndFields.{inbox_of}
use Rattle.tp_inbox.specs.Ledgers.{Inbox, AreSenders}
use Rattle.tp_inbox.proofs.StepsKeepDeliveryRule.{begins}
use Rattle.tp_inbox.proofs.NewInboxContents.{new_are_senders}
use Rattle.tp_inbox.proofs.making.inbox.Goals as goal

pub with_rule-requires : goal.with_rule-requires
with_rule-requires c = begins

pub returns-clause-joins : goal.returns-clause-joins
returns-clause-joins c =
    subst (λ (i : Inbox). AreSenders i c.in_ok-senders.senders.items) (sym c.in_ok-owner.ensures.inbox)
    (new_are_senders (inbox_of (arc_value c.in_ok-channel.channel)) _ c.in_ok-senders.ensures.senders)
