-- The senders are those of one route more.
use Rattle.std.proofs.Common.{◌≡◌, ◌≢◌, ◌<◌, ℕ, ◌+◌, List, length, get_or, ap, sym, ◌∙◌, subst, rules, Result, Ok, Err}
use Rattle.std.specs.Prelude.{All, OnOk, slice_set}
use Rattle.std.specs.Arc.{arc_value}
use Rattle.std.proofs.lemmas.List.{get_or_read}
use Rattle.crossbeam_queue.specs.SegTies.{IsSegPassOf}
use Rattle.tp_config.specs.declared.port_type.RouteId.{RouteId}
use Rattle.tp_inbox.specs.declared.channel.Channel.{Channel}
use Rattle.tp_inbox.specs.Routed.{absent_route, route_at}
use Rattle.tp_inbox.specs.Ledgers.{SenderLedger, AreMade, extended, sender_by}
use Rattle.tp_inbox.specs.InboxEndFields.{inbox_of}
use Rattle.tp_inbox.proofs.SendersBySourceComponent.{found_is, made_found, made_new, apart_routes}
use Rattle.tp_inbox.proofs.making.add_route.Goals as goal

on_ok : {A E : Type 0} (P Q : Type 0) (r : Result A E) → (P → Q) → OnOk r P → OnOk r Q
on_ok P Q (Ok x) f h = f h
on_ok P Q (Err e) f h = h

read_route : (channel shown : Channel) (place : ℕ) (r : RouteId) → shown ≡ channel → place < length channel.routes.items → r ≡ get_or shown.routes.items place r
    → r ≡ route_at channel.routes.items place
read_route channel shown place r same low at =
    get_or_read channel.routes.items place r low (at ∙ ap (λ (h : Channel). get_or h.routes.items place r) same) absent_route

-- where the sender stands, and what it is
stands : (channel shown : Channel) (place k : ℕ) (senders looked : List SenderLedger) (x : SenderLedger) (r : RouteId) → shown ≡ channel → place < length channel.routes.items
    → r ≡ get_or shown.routes.items place r → looked ≡ senders → (k < length looked) × ((d : SenderLedger) → (get_or looked k d).source ≡ r.source)
    → AreMade (inbox_of channel) place senders → x ≡ get_or senders k x
    → (k < length senders) × ((d : SenderLedger) → (get_or senders k d).source ≡ (route_at channel.routes.items place).source)
    × (x ≡ sender_by (inbox_of channel) place (route_at channel.routes.items place).source)
stands channel shown place k senders looked x r same low read are found split_off at =
    let route = read_route channel shown place r same low read in
    let some = subst (λ (l : List SenderLedger). (k < length l) × ((d : SenderLedger) → (get_or l k d).source ≡ r.source)) are found in
    let there : (d : SenderLedger) → (get_or senders k d).source ≡ (route_at channel.routes.items place).source = λ d. some.1 d ∙ ap (λ (q : RouteId). q.source) route in
    (some.0, there, (found_is (inbox_of channel) place k senders x split_off some.0 there at).2)

found : (c : goal.After-index_mut) → (c.in-Some.index < length c.args.senders.now.items)
    × ((d : SenderLedger) → (get_or c.args.senders.now.items c.in-Some.index d).source
    ≡ (route_at (arc_value c.args.channel.now).routes.items c.args.place).source)
    × (c.index_mut.result.now ≡ sender_by (inbox_of (arc_value c.args.channel.now)) c.args.place
    (route_at (arc_value c.args.channel.now).routes.items c.args.place).source)
found c =
    stands (arc_value c.args.channel.now) c.deref.result.now c.args.place c.in-Some.index c.args.senders.now.items c.as_slice.result.now c.index_mut.result.now
    c.index-route.result.now c.deref.ensures c.requires.place c.index-route.ensures c.as_slice.ensures.value c.in-Some.ensures.some c.requires.senders
    c.index_mut.ensures.value

pub extend-requires-clause-queue : goal.extend-requires-clause-queue
extend-requires-clause-queue c = subst (λ (x : SenderLedger). IsSegPassOf x.inbox.queue c.args.pass) (sym (found c).2) c.requires.queue

pub extend-requires-clause-place : goal.extend-requires-clause-place
extend-requires-clause-place c = subst (λ (x : SenderLedger). c.args.place < length x.inbox.routes) (sym (found c).2) c.requires.place

pub extend-requires-clause-apart : goal.extend-requires-clause-apart
extend-requires-clause-apart c =
    let channel = arc_value c.args.channel.now in
    let apart = apart_routes channel.comp channel.ports channel.routes.items channel.routed c.args.place c.requires.place (route_at channel.routes.items c.args.place).source in
    subst (λ (x : SenderLedger). All (λ (r : RouteId). r ≢ route_at x.inbox.routes c.args.place) x.routes) (sym (found c).2) apart

pub extend-requires-clause-fresh : goal.extend-requires-clause-fresh
extend-requires-clause-fresh c = ap (λ (x : SenderLedger). x.ledger) (found c).2

pub returns-in-Some : goal.returns-in-Some
returns-in-Some c =
    let channel = arc_value c.args.channel.now in
    let x = c.index_mut.result.now in
    let f = stands channel c.deref.result.now c.args.place c.in-Some.index c.args.senders.now.items c.as_slice.result.now x c.index-route.result.now
    c.deref.ensures c.requires.place c.index-route.ensures c.as_slice.ensures.value c.in-Some.ensures.some c.requires.senders c.index_mut.ensures.value in
    on_ok (c.extend.new.self ≡ extended x (route_at x.inbox.routes c.args.place))
    (AreMade (inbox_of channel) (c.args.place + 1) (slice_set c.args.senders.now.items c.in-Some.index c.extend.new.self)) c.extend.result
    (λ grown.
    made_found (inbox_of channel) c.args.place c.in-Some.index c.args.senders.now.items x c.extend.new.self c.requires.place c.requires.senders f.0 f.1
    c.index_mut.ensures.value (grown ∙ ap (λ (y : SenderLedger). extended x (route_at y.inbox.routes c.args.place)) f.2))
    c.extend.ensures

pub returns-in_ok-push-in-None : goal.returns-in_ok-push-in-None
returns-in_ok-push-in-None c =
    let channel = arc_value c.args.channel.now in
    let route = read_route channel c.deref.result.now c.args.place c.index-route.result.now c.deref.ensures c.requires.place c.index-route.ensures in
    let none : All (λ (s : SenderLedger). s.source ≢ (route_at channel.routes.items c.args.place).source) c.args.senders.now.items =
    subst (λ (y : List SenderLedger × RouteId). All (λ (s : SenderLedger). s.source ≢ y.1.source) y.0) (λ i. (c.as_slice.ensures.value i, route i)) c.in-None.ensures.none in
    made_new (inbox_of channel) c.args.place c.args.senders.now.items c.push.new.self.items c.in_ok-sender-in-None.sender c.requires.place c.requires.senders none
    (search rules) c.in_ok-push-in-None.ensures.items
