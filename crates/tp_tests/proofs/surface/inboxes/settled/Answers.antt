-- The senders are the inbox's.
use Rattle.std.proofs.Common.{◌≡◌, List, sym, subst}
use Rattle.tp_inbox.specs.Ledgers.{Inbox, AreSenders, SenderLedger}
use Rattle.tp_tests.proofs.surface.inboxes.settled.Goals as goal

still : (i j : Inbox) (senders : List SenderLedger) → i ≡ j → AreSenders j senders → AreSenders i senders
still i j senders same are = subst (λ (k : Inbox). AreSenders k senders) (sym same) are

pub gather-requires : goal.gather-requires
gather-requires g c = still _ _ _ c.in_ok-drain.ensures.inbox c.in_ok-owner.ensures.joins
