-- Each sender that joins is one of this inbox, and at the end all have joined.
use Rattle.std.proofs.Common.{◌≡◌, ◌<◌, ◌++◌, ◌∷◌, [], List, length, map, rules, arith, sym, ap, ◌∙◌, subst, length-append}
use Rattle.std.specs.Prelude.{All}
use Rattle.std.specs.List.{AllZip}
use Rattle.std.specs.Vec.Iter.{into_iter_items}
use Rattle.std.specs.Arc.{arc_value}
use Rattle.tp_inbox.specs.declared.channel.Channel.{Channel}
use Rattle.tp_inbox.specs.declared.rule.View.{View}
use Rattle.tp_config.specs.declared.port_type.RouteId.{RouteId}
use Rattle.tp_inbox.specs.Envelopes.{AreRouted, Ledger, one_of, envelopes_before}
use Rattle.tp_inbox.specs.Rule.{owner_pass}
use Rattle.tp_inbox.specs.Routed.{AreRoutes, arrivals_of, posted_of, rest_arrivals, route_at}
use Rattle.tp_inbox.specs.Ledgers.{Draining, Inbox, SenderLedger, IsSenderInto, put_by}
use Rattle.tp_inbox.specs.InboxEndFields.{inbox_of, sent_by}
use Rattle.tp_inbox.specs.Gathers.{IsPutOf}
use Rattle.tp_inbox.proofs.StepsKeepDeliveryRule.{joins_as, learns_as}
use Rattle.tp_inbox.proofs.OwnerDrainedEnvelopes.{owner_arrivals}
use Rattle.tp_inbox.proofs.SendersBySourceComponent.{from_routes}
use Rattle.tp_inbox.proofs.RoutesAfterSendersJoin.{Knowing, all_head, all_tail, begun_at, joined, taken_apart, hand_routed, front_and_back, move_one, sent-push, known-push, known_none, few_senders}
use Rattle.tp_inbox.proofs.gathered.gather.Goals as goal

pub loop-sender-init : goal.loop-sender-init
loop-sender-init g c =
    let owner = c.owner.invariant in
    let channel = arc_value c.owner.inside.channel in
    let own : inbox_of channel ≡ c.args.owner.inbox = ap (λ (d : Draining). d.inbox) c.owner.view_is in
    let gives = c.into_iter-sender-iterator.ensures.into_iter_gives.0 in
    let rest = into_iter_items c.into_iter-sender-iterator.result in
    let few = few_senders c.args.owner.inbox c.args.senders.items c.requires in
    let none : length c.owner.inside.sources.items ≡ 0 = ap length owner.sources in
    let known = c.owner.inside.pass.me.view.client.known in
    record {
      pass = search rules;
      view = owner.sound.owner;
      known = known_none channel.routes.items known c.owner.inside.sources.items owner.known owner.sources;
      as_many = none ∙ sym (ap length owner.known);
      inbox = subst (All (IsSenderInto (inbox_of channel))) (sym gives) (subst (λ (i : Inbox). All (IsSenderInto i) c.args.senders.items) (sym own) c.requires.0);
      lists = ap (λ l. sent_by channel.routes.items l known ++ map put_by rest) owner.sources ∙ ap (map put_by) gives;
      room = omega (arith, none, few, ap length gives, owner.sources_room, ap (λ (i : Inbox). length i.routes) own);
    }

pub absorb-requires-clause-rule : goal.absorb-requires-clause-rule
absorb-requires-clause-rule g c =
    joins_as _ _ _ _ _ _ _ c.sender.inside.places.items c.sender.inside.pass.me.view.client.put c.loop-sender.invariant.view c.sender.invariant.view

pub len_as-left-requires-clause-rule : goal.len_as-left-requires-clause-rule
len_as-left-requires-clause-rule g c = learns_as _ _ _ _ _ c.loop-sender.invariant.view

pub loop-sender-preserved : goal.loop-sender-preserved
loop-sender-preserved g c =
    let was = c.loop-sender.invariant in
    let s = c.in-Some.sender in
    let channel = arc_value c.owner.inside.channel in
    let left = into_iter_items c.next.new.self in
    let steps = c.in-Some.ensures.steps.0 in
    let ss = sent_by channel.routes.items c.loop-sender.sources.items c.loop-sender.pass.me.view.client.known in
    let split_off = c.owner.inside.pass.me.view.client.split_off in
    let taken = c.owner.inside.pass.me.view.client.taken in
    let known = c.loop-sender.pass.me.view.client.known in
    let theirs = c.sender.inside.pass.me.view.client in
    let source : c.sender.inside.source ≡ s.source = ap (λ (x : SenderLedger). x.source) c.sender.view_is in
    let inboxes = subst (All (IsSenderInto (inbox_of channel))) steps was.inbox in
    let first : IsSenderInto (inbox_of channel) s = all_head (IsSenderInto (inbox_of channel)) s left inboxes in
    let own : inbox_of (arc_value c.sender.inside.channel) ≡ inbox_of channel = ap (λ (x : SenderLedger). x.inbox) c.sender.view_is ∙ first.0 in
    let lists : (arc_value c.sender.inside.channel).routes.items ≡ channel.routes.items = ap (λ (i : Inbox). i.routes) own in
    let put : s.ledger ≡ map (posted_of channel.routes.items) theirs.put =
    sym (ap (λ (x : SenderLedger). x.ledger) c.sender.view_is) ∙ ap (λ r. map (posted_of r) theirs.put) lists in
    let view = c.absorb.ensures.rule ∙ ap (λ (v : View). owner_pass v.split_off v.taken (v.known ++ (theirs.places, theirs.put) ∷ [])) was.view in
    let more = ap (λ (v : View). v.known) view in
    let grown = sent-push channel.routes.items c.loop-sender.sources.items c.push_reserved.new.self.items known _ c.sender.inside.source
    (theirs.places, theirs.put) (put_by s) was.as_many c.push_reserved.ensures.items more source (sym put) in
    record {
      pass = search rules;
      view = view ∙ ap (owner_pass split_off taken) (sym more);
      known = known-push channel.routes.items known _ ss _ theirs c.sender.inside.places.items theirs.put (put_by s) was.known more grown c.sender.invariant.view
          (from_routes channel.comp channel.ports channel.routes.items channel.routed s.source c.sender.inside.places.items
          (subst (λ (r : List RouteId). All (λ p. p < length r) c.sender.inside.places.items) lists c.sender.invariant.low)
          (ap (λ r. map (route_at r) c.sender.inside.places.items) (sym lists) ∙ ap (λ (x : SenderLedger). x.routes) c.sender.view_is ∙ first.1))
          put;
      as_many =
          omega (
            arith,
            was.as_many,
            ap length c.push_reserved.ensures.items,
            length-append c.loop-sender.sources.items (c.sender.inside.source ∷ []),
            ap length more,
            length-append known ((theirs.places, theirs.put) ∷ []),
          );
      inbox = all_tail (IsSenderInto (inbox_of channel)) s left inboxes;
      lists = move_one _ ss (put_by s) (map put_by left) grown
          ∙ subst (λ (l : List SenderLedger). ss ++ map put_by l ≡ map put_by c.args.senders.items) steps was.lists;
      room = omega (arith, was.room, ap length c.push_reserved.ensures.items, length-append c.loop-sender.sources.items, ap length steps, c.push_reserved.ensures.capacity);
    }

pub with_hand-rest-requires-clause-routed : goal.with_hand-rest-requires-clause-routed
with_hand-rest-requires-clause-routed g c =
    let owner = c.owner.invariant in
    subst (λ (h : Channel). AreRouted (length h.routes.items) (one_of c.owner.inside.hand)) (sym c.deref-3.ensures)
    (hand_routed _ _ c.owner.inside.pass.me.view.client.taken c.owner.inside.hand owner.split_off owner.sound.routed owner.ends)

-- what the owner's pass knows, and what was taken out
known_all : (g : _) (c : goal.After-drop-owner-inside-5 g) → Knowing (arc_value c.owner.inside.channel) c.len_as-left.new.pass.me.view.client
    (sent_by (arc_value c.owner.inside.channel).routes.items c.loop-sender.sources.items c.len_as-left.new.pass.me.view.client.known)
    × (arrivals_of (arc_value c.owner.inside.channel).routes.items c.len_as-left.new.pass.me.view.client.taken
    ≡ arrivals_of (arc_value c.owner.inside.channel).routes.items (envelopes_before c.owner.inside.pass.me.view.client.taken (one_of c.owner.inside.hand))
    ++ rest_arrivals c.with_hand-rest.result.items)
    × (c.len_as-left.new.pass.me.view.client.known ≡ c.loop-sender.pass.me.view.client.known)
known_all g c =
    let was = c.loop-sender.invariant in
    let owner = c.owner.invariant in
    let channel = arc_value c.owner.inside.channel in
    let v = c.owner.inside.pass.me.view.client in
    let j = joined v c.loop-sender.pass.me.view.client c.len_as-left.new.pass.me.view.client
    c.loop-sender.pass.me.view.client.known _ owner.sound was.view c.len_as-left.ensures.queue.2 c.len_as-left.ensures.rule in (
      record {
        sound = j.0;
        split_off = j.1 ∙ owner.split_off;
        known =
            subst (λ (k : List Ledger). AllZip (IsPutOf channel.routes.items) k (sent_by channel.routes.items c.loop-sender.sources.items k)) (sym j.3) was.known;
      },
      taken_apart channel.routes.items _ v.taken c.owner.inside.hand _ j.2 owner.ends
          (c.with_hand-rest.ensures ∙ ap (λ (h : Channel). arrivals_of h.routes.items (one_of c.owner.inside.hand)) c.deref-3.ensures),
      j.3,
    )

pub invariant_of-result : goal.invariant_of-result
invariant_of-result g c =
    let k = known_all g c in
    record {
      pass = search rules;
      sound = k.0.sound;
      split_off = k.0.split_off;
      known = k.0.known;
      ends = front_and_back _ _ (rest_arrivals c.with_hand-rest.result.items) k.1;
    }

pub returns-clause-are : goal.returns-clause-are
returns-clause-are g c = subst (λ (d : Draining). AreRoutes d.inbox.comp d.inbox.ports d.inbox.routes) c.owner.view_is (arc_value c.owner.inside.channel).routed

pub returns-clause-routed : goal.returns-clause-routed
returns-clause-routed g c = (owner_arrivals c.owner.inside _ c.owner.invariant c.owner.view_is).routed

pub returns-clause-begun : goal.returns-clause-begun
returns-clause-begun g c =
    let k = known_all g c in
    begun_at (arc_value c.owner.inside.channel) c.len_as-left.new.pass.me.view.client _ _ _ k.0
    (front_and_back _ _ (rest_arrivals c.with_hand-rest.result.items) k.1) (ap (λ (d : Draining). d.inbox.comp) c.owner.view_is)
