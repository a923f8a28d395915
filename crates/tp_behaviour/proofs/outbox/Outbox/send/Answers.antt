-- The tables stay true while one sender puts a message, and no other sender changes.
use Rattle.std.proofs.Common.{◌≡◌, ◌∙◌, ap, sym, subst, Some, ℕ, slice_get}
use Rattle.std.specs.Prelude.{◌≤◌, IfErr, OnOk, length, slice_set}
use Rattle.std.proofs.lemmas.Option.{get_or_from_slice_get}
use Rattle.tp_config.specs.declared.port_type.RouteId.{RouteId}
use Rattle.tp_value.specs.declared.message.Message.{Message}
use Rattle.tp_inbox.specs.declared.entry.Entry.TheVariants as entry
use Rattle.tp_inbox.specs.History.{next_of, posted_on}
use Rattle.tp_inbox.specs.Desks.{adding}
use Rattle.tp_inbox.specs.Ledgers.{SenderLedger, put_on_way}
use Rattle.tp_inbox.specs.Routed.{absent_route, route_at}
use Rattle.tp_behaviour.specs.Outboxes.{HasPut}
use Rattle.tp_inbox.specs.declared.sender.PutFault.{PutFault}
use Rattle.tp_inbox.specs.declared.sender.PutFault.TheVariants as put_fault
use Rattle.tp_behaviour.proofs.OutboxSendersByRoute.{contained, filed_put, full_on, has_put, leads_there, same_way}
use Rattle.tp_behaviour.proofs.outbox.Outbox.send.Goals as goal

-- the sender that was found has the route, and only what it has put changes
pub invariant_of-self : goal.invariant_of-self
invariant_of-self g c =
    let p = c.route_place-place.ensures in
    let ss = c.self.inside.senders.items in
    let place = c.route_place-place.result in
    let m = next_of c.args.desk.now.log c.args.message in
    let found = subst (λ l. slice_get l place.sender ≡ Some p.0) (sym c.self.view_is) p.1 in
    let this = c.index_mut.ensures.value ∙ get_or_from_slice_get ss place.sender p.0 c.index_mut.result.now found in
    filed_put ss c.self.inside.places c.self.inside.loops.items place.sender c.index_mut.result.now c.send.new.self
    (found ∙ ap (λ (s : SenderLedger). Some s) (sym this))
    (same_way (c.send.new.desk ≡ c.args.desk.now) c.index_mut.result.now c.send.new.self place.route_index m c.send.result c.send.ensures.sender c.send.ensures.err)
    c.self.invariant

pub returns-clause-ok : goal.returns-clause-ok
returns-clause-ok g c =
    let p = c.route_place-place.ensures in
    let ss = c.self.inside.senders.items in
    let place = c.route_place-place.result in
    let q = c.args.route in
    let d = c.args.desk.now in
    let m = next_of d.log c.args.message in
    let found = subst (λ l. slice_get l place.sender ≡ Some p.0) (sym c.self.view_is) p.1 in
    let this = c.index_mut.ensures.value ∙ get_or_from_slice_get ss place.sender p.0 c.index_mut.result.now found in
    let way = ap (λ (s : SenderLedger). route_at s.routes place.route_index) this ∙ get_or_from_slice_get p.0.routes place.route_index q absent_route p.2 in
    let leads = leads_there ss c.self.inside.places c.self.inside.loops.items place.sender place.route_index p.0 q c.self.invariant found p.2
    ∙ ap (λ (s : SenderLedger). s.inbox.comp) (sym this) in
    subst (λ l. OnOk c.send.result ((n : ℕ) × HasPut q m n l (slice_set ss place.sender c.send.new.self) × (c.send.new.desk ≡ adding d (entry.Sent q n m))))
    c.self.view_is
    (has_put ss c.self.inside.places c.self.inside.loops.items place.sender place.route_index c.index_mut.result.now c.send.new.self q m d c.send.new.desk
    c.send.result
    (found ∙ ap (λ (s : SenderLedger). Some s) (sym this))
    way leads c.self.invariant c.send.ensures.desk c.send.ensures.sender)

pub returns-clause-limit : goal.returns-clause-limit
returns-clause-limit g c =
    let p = c.route_place-place.ensures in
    let ss = c.self.inside.senders.items in
    let place = c.route_place-place.result in
    let q = c.args.route in
    let found = subst (λ l. slice_get l place.sender ≡ Some p.0) (sym c.self.view_is) p.1 in
    let this = c.index_mut.ensures.value ∙ get_or_from_slice_get ss place.sender p.0 c.index_mut.result.now found in
    let way = get_or_from_slice_get p.0.routes place.route_index q absent_route p.2 in
    full_on (λ (f : PutFault × Message). f.0 ≡ put_fault.Limit) _ q p.0 c.send.result (contained _ place.sender p.0 p.1)
    (contained p.0.routes place.route_index q p.2)
    (subst (λ (r : RouteId). IfErr c.send.result (λ f. f.0 ≡ put_fault.Limit → 100000 ≤ length (posted_on r p.0.ledger))) way
    (subst (λ (s : SenderLedger). IfErr c.send.result (λ f. f.0 ≡ put_fault.Limit → 100000 ≤ length (put_on_way s place.route_index))) this c.send.ensures.limit))
