-- The tables say the truth of one sender more, and of those that there are where it isn't added.
use Rattle.std.proofs.Common.{◌≡◌, ◌∙◌, ◌++◌, ◌∷◌, [], ℕ, All, List, ap, arith, length, subst, sym}
use Rattle.std.specs.Prelude.{◌≢◌}
use Rattle.tp_inbox.specs.Ledgers.{SenderLedger}
use Rattle.tp_behaviour.specs.Outboxes.{AreSendersFiled, IsListed}
use Rattle.tp_behaviour.proofs.OutboxSendersByRoute.{filed_more, filed_still}
use Rattle.tp_behaviour.proofs.outbox.Outbox.add.Goals as goal

-- some of its routes may be filed, which are none of the others'
pub invariant_of-self-in_err-file : goal.invariant_of-self-in_err-file
invariant_of-self-in_err-file c =
    let s = c.args.sender in
    let ss = c.self.inside.senders.items in
    let loops = c.self.inside.loops.items in
    let apart = subst (All (λ (x : SenderLedger). x.inbox.comp ≢ s.inbox.comp)) (sym c.self.view_is) c.requires in
    let still = filed_still ss c.self.inside.places c.file.new.places loops s c.self.invariant apart c.file.ensures.aimed c.file.ensures.others in
    subst (λ (l : List ℕ). AreSendersFiled c.reserve.new.self.items c.file.new.places l) (sym c.reserve-2.ensures.items)
    (subst (λ (l : List SenderLedger). AreSendersFiled l c.file.new.places loops) (sym c.reserve.ensures.items) still)

-- the sender stands after the others, and each of its routes is found
pub invariant_of-self-2 : goal.invariant_of-self-2
invariant_of-self-2 c =
    let s = c.args.sender in
    let ss = c.self.inside.senders.items in
    let places = c.self.inside.places in
    let loops = c.self.inside.loops.items in
    let k = c.len-place.result in
    let apart = subst (All (λ (x : SenderLedger). x.inbox.comp ≢ s.inbox.comp)) (sym c.self.view_is) c.requires in
    let last : k ≡ length ss = omega (arith, c.len-place.ensures, c.self.inside.senders.ok.0) in
    let listed = subst (λ (l : List ℕ). IsListed s k l c.list.new.loops.items) c.reserve-2.ensures.items c.list.ensures in
    let items : c.push_reserved.new.self.items ≡ ss ++ s ∷ [] = c.push_reserved.ensures.items ∙ ap (λ l. l ++ s ∷ []) c.reserve.ensures.items in
    subst (λ l. AreSendersFiled l c.file.new.places c.list.new.loops.items) (sym items)
    (filed_more ss places c.file.new.places loops c.list.new.loops.items k s c.self.invariant apart c.file.ensures.aimed last c.in_ok-file.ensures.filed
    c.file.ensures.others listed)
