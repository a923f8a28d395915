-- From each sender the arrivals begin what it has put, and are all of it once the queue is empty.
use Rattle.std.proofs.Common.{◌≡◌, ◌<◌, ◌++◌, ◌∷◌, [], List, length, ap, sym, ◌∙◌, subst}
use Rattle.std.specs.Arc.{arc_value}
use Rattle.std.specs.List.{AllZip}
use Rattle.tp_config.specs.declared.port_type.CompId.{CompId}
use Rattle.tp_config.specs.declared.port_type.RouteId.{RouteId}
use Rattle.tp_inbox.specs.declared.channel.Channel.{Channel}
use Rattle.tp_inbox.specs.Envelopes.{Ledger}
use Rattle.tp_inbox.specs.Routed.{AreDelivered, AreArrivalsNumbered, arrivals_of, rest_arrivals}
use Rattle.tp_inbox.specs.Ledgers.{Gathering}
use Rattle.tp_inbox.specs.InboxEndFields.{sent_by}
use Rattle.tp_inbox.specs.Gathers.{IsPutOf}
use Rattle.tp_inbox.proofs.OwnerStepInvariants.{routed_rest}
use Rattle.tp_inbox.proofs.RoutesAfterSendersJoin.{Knowing, Sent, begun_at, delivered_at, numbered_at, rest_at, front_and_back}
use Rattle.tp_inbox.proofs.gathered.Gathered.settle.Goals as goal

pub returns-then-is_err-clause-begun : goal.returns-then-is_err-clause-begun
returns-then-is_err-clause-begun g c =
    let was = c.loop.invariant in
    let channel = arc_value c.self.inside.channel in
    let v = c.loop.pass.me.view.client in
    let sent = sent_by channel.routes.items c.self.inside.sources.items v.known in
    let rest = rest_arrivals c.reserve.new.self.items in
    let taken = was.taken ∙ ap (λ l. c.args.self.drained ++ rest_arrivals l) (sym c.reserve.ensures.items) in
    let know : Knowing channel v sent = record { sound = was.sound; split_off = was.split_off; known = was.known } in
    begun_at channel v sent _ _ know (front_and_back _ c.args.self.drained rest taken) (ap (λ (x : Gathering). x.inbox.comp) c.self.view_is)

-- what was taken out is what was drained and then the rest, and what is known of the senders
emptied : (g : _) (c : goal.After-drop-channel g) → Knowing (arc_value c.self.inside.channel) c.take_out.new.pass.me.view.client
    (sent_by (arc_value c.self.inside.channel).routes.items c.self.inside.sources.items c.self.inside.pass.me.view.client.known)
    × (arrivals_of (arc_value c.self.inside.channel).routes.items c.take_out.new.pass.me.view.client.taken
    ≡ c.args.self.drained ++ rest_arrivals c.reserve.new.self.items)
emptied g c =
    let was = c.loop.invariant in
    let channel = arc_value c.self.inside.channel in
    let found = c.in-None-take_out.ensures.found in
    let same = c.take_out.ensures.same in (
      record {
        sound = c.take_out.ensures.sound;
        split_off = same.0 ∙ was.split_off;
        known =
            subst (λ (y : List Ledger × List Ledger). AllZip (IsPutOf channel.routes.items) y.0 (sent_by channel.routes.items c.self.inside.sources.items y.1))
            (λ i. (sym same.1 i, was.same i)) was.known;
      },
      ap (arrivals_of channel.routes.items) found.0 ∙ was.taken ∙ ap (λ l. c.args.self.drained ++ rest_arrivals l) (sym c.reserve.ensures.items),
    )

pub returns-in-None-take_out-clause-delivered : goal.returns-in-None-take_out-clause-delivered
returns-in-None-take_out-clause-delivered g c =
    let e = emptied g c in
    let channel = arc_value c.self.inside.channel in
    let rest = rest_arrivals c.reserve.new.self.items in
    subst (λ (x : CompId × List Sent). AreDelivered x.0 (c.args.desk.now.log ++ rest) x.1) (ap (λ (x : Gathering). (x.inbox.comp, x.sent)) c.self.view_is)
    (delivered_at channel c.take_out.new.pass.me.view.client _ c.args.self.drained rest c.args.desk.now.log e.0
    c.in-None-take_out.ensures.found.1 e.1 c.requires.arrivals)

pub returns-in-None-take_out-clause-numbered : goal.returns-in-None-take_out-clause-numbered
returns-in-None-take_out-clause-numbered g c =
    let e = emptied g c in
    let channel = arc_value c.self.inside.channel in
    let rest = rest_arrivals c.reserve.new.self.items in
    subst (λ (r : List RouteId). AreArrivalsNumbered r (c.args.desk.now.log ++ rest)) (ap (λ (x : Gathering). x.inbox.routes) c.self.view_is)
    (numbered_at channel c.take_out.new.pass.me.view.client _ c.args.self.drained rest c.args.desk.now.log e.0 e.1
    c.requires.arrivals)

pub returns-in-None-take_out-clause-routed : goal.returns-in-None-take_out-clause-routed
returns-in-None-take_out-clause-routed g c =
    let e = emptied g c in
    let channel = arc_value c.self.inside.channel in
    rest_at channel c.take_out.new.pass.me.view.client c.args.self.inbox c.args.self.drained (rest_arrivals c.reserve.new.self.items) c.take_out.ensures.sound
    e.0.split_off (ap (λ (x : Gathering). x.inbox) c.self.view_is) e.1

pub addressed-requires : goal.addressed-requires
addressed-requires g c =
    let was = c.loop.invariant in
    let e = c.in-Some-take_out.envelope in
    let routed = routed_rest _ _ c.take_out.new.pass.me.view.client.taken c.loop.pass.me.view.client.taken (e ∷ [])
    (c.take_out.ensures.same.0 ∙ was.split_off) c.in-Some-take_out.ensures.found c.take_out.ensures.sound.routed in
    subst (λ (h : Channel). e.place < length h.routes.items) (sym c.deref-in-Some-take_out.ensures) routed.0
