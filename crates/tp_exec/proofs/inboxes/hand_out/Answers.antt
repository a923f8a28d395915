-- Each sender goes to a component that there is, which has none on its route yet.
use Rattle.std.proofs.Common.{List, subst}
use Rattle.std.specs.Vec.Iter.{into_iter_items}
use Rattle.tp_inbox.specs.Ledgers.{SenderLedger}
use Rattle.tp_exec.proofs.SendersGivenToWorkers.{AreDealt, dealt_within, dealt_apart, dealt_next, dealt_last, no_rest}
use Rattle.tp_exec.proofs.inboxes.hand_out.Goals as goal

pub hand_to-requires-clause-within : goal.hand_to-requires-clause-within
hand_to-requires-clause-within c =
    let now = c.loop-sender.equipped.items in
    let was = subst (λ (l : List SenderLedger). AreDealt c.args.workers.items c.args.senders.items l now) c.in-Some.ensures.steps.0 c.loop-sender.invariant in
    dealt_within _ _ (into_iter_items c.next.new.self) c.in-Some.sender now was

pub hand_to-requires-clause-apart : goal.hand_to-requires-clause-apart
hand_to-requires-clause-apart c =
    let now = c.loop-sender.equipped.items in
    let was = subst (λ (l : List SenderLedger). AreDealt c.args.workers.items c.args.senders.items l now) c.in-Some.ensures.steps.0 c.loop-sender.invariant in
    dealt_apart _ _ (into_iter_items c.next.new.self) c.in-Some.sender now was c.requires.apart

pub loop-sender-preserved : goal.loop-sender-preserved
loop-sender-preserved c =
    let now = c.loop-sender.equipped.items in
    let was = subst (λ (l : List SenderLedger). AreDealt c.args.workers.items c.args.senders.items l now) c.in-Some.ensures.steps.0 c.loop-sender.invariant in
    dealt_next _ _ (into_iter_items c.next.new.self) c.in-Some.sender now was c.hand_to.new.workers.items c.in_ok-hand_to.ensures

pub returns : goal.returns
returns c =
    let now = c.loop-sender.equipped.items in
    let none = no_rest c.loop-sender.sender-iterator c.in-None.ensures.steps.0 in
    dealt_last _ _ now (subst (λ (l : List SenderLedger). AreDealt c.args.workers.items c.args.senders.items l now) none c.loop-sender.invariant)
