-- What an owner's fields say of what it has drained.
use Rattle.std.proofs.Common.{◌≡◌, ℕ, ◌+◌, ◌<◌, ◌⊎◌, inl, inr, true, false, Option, Some, None, List, [], ◌∷◌, ◌++◌, length, set, get_or, cond, eqb, eq-eqb, append_assoc, sym, ap, ◌∙◌, subst, arith}
use Rattle.std.specs.Arc.{arc_value}
use Rattle.std.proofs.lemmas.List.{map-append}
use Rattle.std.proofs.lemmas.Bool.{cases_Bool, eqb-true}
use Rattle.std.proofs.lemmas.Option.{none-some}
use Rattle.indexmap.specs.IndexMap.{get_by}
use Rattle.tp_config.specs.declared.port_type.CompId.{CompId}
use Rattle.tp_config.specs.declared.port_type.RouteId.{RouteId}
use Rattle.tp_inbox.specs.declared.entry.Entry.{Entry}
use Rattle.tp_inbox.specs.declared.envelope.InboxEnvelope.{InboxEnvelope}
use Rattle.tp_inbox.specs.declared.channel.Channel.{Channel}
use Rattle.tp_inbox.specs.declared.owner.Owner.TheInside as owner
use Rattle.tp_inbox.specs.declared.rule.View.{View}
use Rattle.tp_inbox.specs.Rule.{Sound}
use Rattle.tp_inbox.specs.History.{arrivals, arrived_on}
use Rattle.tp_inbox.specs.Desks.{Journal, adding_all}
use Rattle.tp_inbox.specs.Envelopes.{of, one_of, envelopes_before, EndsWith, AreCounts, AreRouted}
use Rattle.tp_inbox.specs.Routed.{AreArrivals, arrival_of, arrivals_of, route_at, absent_route}
use Rattle.tp_inbox.specs.Places.{route_eq}
use Rattle.tp_inbox.specs.Ledgers.{Draining, drained_on}
use Rattle.tp_inbox.specs.InboxEndFields.{GivesNext, IsOwner, KeepsRoutes, drained_of, inbox_of}
use Rattle.tp_inbox.proofs.EnvelopesOfOneRoute.{append_nil, counts_next}
use Rattle.tp_inbox.proofs.OwnerStepInvariants.{in_order_before, routed_before, arrived, ends-append, ends_nothing, before_nothing}
use Rattle.tp_inbox.proofs.ArrivalsOfEnvelopes.{are_on, arrivals-append, numbered_on, on_none, on_place}

-- what an owner sees itself as
abbrev pub seen : owner.Inside → Draining
seen s = record { inbox = inbox_of (arc_value s.channel); drained = drained_of s }

-- the envelopes that it has drained
abbrev pub moved : owner.Inside → List InboxEnvelope
moved s = envelopes_before s.pass.me.view.client.taken (one_of s.hand)

pub owner_arrivals : (s : owner.Inside) (v : Draining) → IsOwner s → seen s ≡ v → AreArrivals v.inbox.routes v.drained
owner_arrivals s v o e =
    let channel = arc_value s.channel in
    let routes = channel.routes.items in
    let routed : AreRouted (length routes) (moved s) = routed_before _ _ s.pass.me.view.client.taken (one_of s.hand) o.split_off o.sound.routed in
    subst (λ (x : Draining). AreArrivals x.inbox.routes x.drained) e
    record {
      routed = are_on routes (moved s) routed;
      order = numbered_on channel.comp channel.ports routes channel.routed (moved s) routed (in_order_before s.pass.me.view.client.taken (one_of s.hand) o.sound.order);
    }

-- the envelope that comes next is the next of its route
pub next_of_route : (s : owner.Inside) (w : View) (e : InboxEnvelope) → IsOwner s → Sound w → KeepsRoutes s.pass.me.view.client w
    → GivesNext s.pass.me.view.client s.hand (Some e) w
    → (e.place < length (arc_value s.channel).routes.items) × (e.number ≡ length (of e.place (moved s))) × (w.taken ≡ moved s ++ e ∷ [])
next_of_route s w e h sound same is =
    let a = arrived w (moved s) e (length (arc_value s.channel).routes.items) sound (same.0 ∙ h.split_off) is in (a.0, a.1, is)

-- where it is in hand again, what was drained stands before it, as it did
pub hand-back : (all xs : List InboxEnvelope) (e : InboxEnvelope) (o : Option InboxEnvelope) → o ≡ Some e → all ≡ xs ++ e ∷ []
    → (envelopes_before all (one_of o) ≡ xs) × EndsWith all (one_of o)
hand-back all xs e o some is = ends-append all xs (one_of o) (is ∙ ap (λ h. xs ++ one_of h) (sym some))

-- where nothing comes, as much was drained as before
pub drained-none : (s : owner.Inside) (w : View) (o : Option InboxEnvelope) → o ≡ None → GivesNext s.pass.me.view.client s.hand None w
    → envelopes_before w.taken (one_of o) ≡ moved s
drained-none s w o none is = λ i. envelopes_before (is.1 i) (one_of ((none ∙ sym is.0) i))

pub drained-push : (routes : List RouteId) (all : List InboxEnvelope) (xs : List InboxEnvelope) (e : InboxEnvelope) (o : Option InboxEnvelope) (x : Entry) → o ≡ None → all ≡ xs
    ++ e ∷ [] → x ≡ arrival_of routes e
    → arrivals_of routes (envelopes_before all (one_of o)) ≡ arrivals_of routes xs ++ x ∷ []
drained-push routes all xs e o x none is entry =
    ap (λ h. arrivals_of routes (envelopes_before all (one_of h))) none ∙ ap (arrivals_of routes) (before_nothing all ∙ is)
    ∙ map-append (arrival_of routes) xs (e ∷ []) ∙ ap (λ y. arrivals_of routes xs ++ y ∷ []) (sym entry)

pub counts-push : (n : ℕ) (counts : List ℕ) (all xs : List InboxEnvelope) (e : InboxEnvelope) (o : Option InboxEnvelope) → o ≡ None → all ≡ xs ++ e ∷ []
    → AreCounts n counts xs → e.place < n → e.number ≡ length (of e.place xs)
    → AreCounts n (set counts e.place (e.number + 1)) (envelopes_before all (one_of o))
counts-push n counts all xs e o none is were low number =
    subst (AreCounts n (set counts e.place (e.number + 1))) (sym (ap (λ h. envelopes_before all (one_of h)) none ∙ before_nothing all ∙ is))
    (counts_next n counts xs e were low number)

pub ends-none : (all : List InboxEnvelope) (o : Option InboxEnvelope) → o ≡ None → EndsWith all (one_of o)
ends-none all o none = subst (λ (h : Option InboxEnvelope). EndsWith all (one_of h)) (sym none) (ends_nothing all)

-- the port of an envelope is one of the desk's
pub port_within : (channel : Channel) (d : Journal) (place port : ℕ) → d.ports ≡ channel.ports → place < length channel.routes.items
    → port ≡ (route_at channel.routes.items place).to.port → port < d.ports
port_within channel d place port ports low at =
    let within : (route_at channel.routes.items place).to.port < channel.ports = channel.routed.within place absent_route low in omega arith

pub adding_nothing : (d : Journal) → d ≡ adding_all d []
adding_nothing d = λ i. record { comp = d.comp; ports = d.ports; log = sym (append_nil d.log) i }

pub adding_twice : (d : Journal) (xs ys : List Entry) → adding_all (adding_all d xs) ys ≡ adding_all d (xs ++ ys)
adding_twice d xs ys = λ i. record { comp = d.comp; ports = d.ports; log = append_assoc d.log xs ys i }

-- where arrivals come after both, those of the desk are still what was drained
pub arrivals_more : (d e : Journal) (drained now more : List Entry) → arrivals d.log ≡ drained → e ≡ adding_all d more → now ≡ drained ++ more
    → arrivals more ≡ more → arrivals e.log ≡ now
arrivals_more d e drained now more was desk is same =
    ap (λ (x : Journal). arrivals x.log) desk ∙ arrivals-append d.log more ∙ ap (λ l. l ++ arrivals more) was
    ∙ ap (λ l. drained ++ l) same ∙ sym is

-- how many of a route that is found were drained
pub counted_at : (s : owner.Inside) (v : Draining) (route : RouteId) (place n : ℕ) → IsOwner s → seen s ≡ v → get_by (route_eq route) s.places ≡ Some place
    → n ≡ get_or s.counts.items place 0 → n ≡ drained_on v route
counted_at s v route place n o is found at =
    let channel = arc_value s.channel in
    let routes = channel.routes.items in
    let known = o.places.known route place found in
    let low = known.0 in
    let routed = routed_before _ _ s.pass.me.view.client.taken (one_of s.hand) o.split_off o.sound.routed in
    let here : route.to.comp ≡ channel.comp = ap (λ (r : RouteId). r.to.comp) (sym known.1) ∙ channel.routed.here place absent_route low in
    at ∙ o.counts.1 place low ∙ ap length (sym (on_place channel.comp channel.ports routes channel.routed place low (moved s) routed))
    ∙ ap (λ r. length (arrived_on r (drained_of s))) known.1
    ∙ ap (λ b. cond b (length (arrived_on route (drained_of s))) 0) (sym (eq-eqb route.to.comp.0 channel.comp.0 (ap (λ (c : CompId). c.0) here)))
    ∙ ap (λ (x : Draining). drained_on x route) is

-- of a route that isn't found nothing was drained
pub none_counted : (s : owner.Inside) (v : Draining) (route : RouteId) → IsOwner s → seen s ≡ v → get_by (route_eq route) s.places ≡ None
    → 0 ≡ drained_on v route
none_counted s v route o is none = by (cases_Bool (eqb route.to.comp.0 channel.comp.0)) ∙ ap (λ (x : Draining). drained_on x route) is
  where
    channel : Channel
    channel = arc_value s.channel

    apart : (k : ℕ) → k < length channel.routes.items → route_at channel.routes.items k ≡ route → ⊥
    apart k low same = none-some k (sym none ∙ ap (λ r. get_by (route_eq r) s.places) (sym same) ∙ o.places.found k low)

    by : (eqb route.to.comp.0 channel.comp.0 ≡ true) ⊎ (eqb route.to.comp.0 channel.comp.0 ≡ false) → 0 ≡ drained_on (seen s) route
    by (inl same) =
        let to : route.to.comp ≡ channel.comp = λ i. record { 0 = eqb-true route.to.comp.0 channel.comp.0 same i } in
        let routed = routed_before _ _ s.pass.me.view.client.taken (one_of s.hand) o.split_off o.sound.routed in
        ap length (sym (on_none channel.comp channel.ports channel.routes.items channel.routed route to apart (moved s) routed))
        ∙ ap (λ b. cond b (length (arrived_on route (drained_of s))) 0) (sym same)
    by (inr other) = ap (λ b. cond b (length (arrived_on route (drained_of s))) 0) (sym other)
