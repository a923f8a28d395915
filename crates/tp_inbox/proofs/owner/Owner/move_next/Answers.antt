-- The envelope that comes next arrives at a port that there is, and is counted for its route; or it is in hand again.
use Rattle.std.proofs.Common.{◌<◌, ◌∙◌, [], ◌∷◌, ◌++◌, length, ap, arith, refl, rules, subst, sym}
use Rattle.std.specs.Arc.{arc_value}
use Rattle.tp_inbox.specs.declared.channel.Channel.{Channel}
use Rattle.tp_inbox.specs.Desks.{adding}
use Rattle.tp_inbox.specs.Envelopes.{AreCounts}
use Rattle.tp_inbox.specs.Ledgers.{Draining}
use Rattle.tp_inbox.specs.Routed.{AreArrivals, arrival_of, arrivals_of}
use Rattle.tp_inbox.proofs.EnvelopesOfOneRoute.{append_nil}
use Rattle.tp_inbox.proofs.HistoryClockGrowth.{arrivals_none}
use Rattle.tp_inbox.proofs.ArrivalsOfEnvelopes.{arrivals_one}
use Rattle.tp_inbox.proofs.OwnerDrainedEnvelopes.{adding_nothing, counts-push, drained-none, drained-push, ends-none, hand-back, next_of_route, owner_arrivals}
use Rattle.tp_inbox.proofs.owner.Owner.move_next.Goals as goal

pub deliver-requires-clause-place : goal.deliver-requires-clause-place
deliver-requires-clause-place g c =
    let f = c.in-Some.ensures in
    let h = next_of_route c.self.inside _ c.in-Some.envelope c.self.invariant f.sound f.same f.found in
    subst (λ (x : Channel). c.in-Some.envelope.place < length x.routes.items) (sym c.deref-2.ensures) h.0

pub deliver-requires-clause-ports : goal.deliver-requires-clause-ports
deliver-requires-clause-ports g c =
    c.requires.desk.1 ∙ ap (λ (d : Draining). d.inbox.ports) (sym c.self.view_is) ∙ ap (λ (x : Channel). x.ports) (sym c.deref-2.ensures)

pub index_mut-requires : goal.index_mut-requires
index_mut-requires g c =
    let f = c.in-Some.ensures in
    let h = next_of_route c.self.inside _ c.in-Some.envelope c.self.invariant f.sound f.same f.found in
    let low = h.0 in
    omega (arith, c.self.invariant.counts.0, c.self.inside.counts.ok.0)

pub returns-in_default-clause-ok : goal.returns-in_default-clause-ok
returns-in_default-clause-ok g c =
    let f = c.in_default.ensures in (
      [],
      adding_nothing c.args.desk.now,
      ap (arrivals_of (arc_value c.self.inside.channel).routes.items) (drained-none c.self.inside c.next_envelope-found.new.pass.me.view.client _ f.hand f.found)
          ∙ ap (λ (d : Draining). d.drained) c.self.view_is
          ∙ sym (append_nil c.args.self.now.drained),
      arrivals_none,
    )

pub returns-in_default-clause-drained : goal.returns-in_default-clause-drained
returns-in_default-clause-drained g c =
    let f = c.in_default.ensures in
    let routes = (arc_value c.self.inside.channel).routes.items in
    subst (λ l. AreArrivals routes (arrivals_of routes l)) (sym (drained-none c.self.inside c.next_envelope-found.new.pass.me.view.client _ f.hand f.found))
    (owner_arrivals c.self.inside _ c.self.invariant refl)

pub invariant_of-self-in_err-deliver : goal.invariant_of-self-in_err-deliver
invariant_of-self-in_err-deliver g c =
    let f = c.in-Some.ensures in
    let was = c.self.invariant in
    let h = next_of_route c.self.inside _ c.in-Some.envelope was f.sound f.same f.found in
    let back = hand-back _ _ c.in-Some.envelope _ c.in_err-deliver.ensures.err.0 h.2 in
    record {
      pass = search rules;
      sound = f.sound;
      split_off = f.same.0 ∙ was.split_off;
      known = f.same.1 ∙ was.known;
      ends = back.1;
      taken = f.counted;
      counts = subst (AreCounts _ c.self.inside.counts.items) (sym back.0) was.counts;
      places = was.places;
      sources = was.sources;
      sources_room = was.sources_room;
      rest = was.rest;
      rest_room = was.rest_room;
    }

pub returns-in_err-deliver-clause-drained : goal.returns-in_err-deliver-clause-drained
returns-in_err-deliver-clause-drained g c =
    owner_arrivals _ _ (invariant_of-self-in_err-deliver g c) refl

pub invariant_of-self-2 : goal.invariant_of-self-2
invariant_of-self-2 g c =
    let f = c.in-Some.ensures in
    let was = c.self.invariant in
    let h = next_of_route c.self.inside _ c.in-Some.envelope was f.sound f.same f.found in
    let none = c.in_ok-deliver.ensures.ok.0 in
    record {
      pass = search rules;
      sound = f.sound;
      split_off = f.same.0 ∙ was.split_off;
      known = f.same.1 ∙ was.known;
      ends = ends-none _ _ none;
      taken = f.counted;
      counts = counts-push _ _ _ _ c.in-Some.envelope _ none h.2 was.counts h.0 h.1;
      places = was.places;
      sources = was.sources;
      sources_room = was.sources_room;
      rest = was.rest;
      rest_room = was.rest_room;
    }

pub returns-clause-ok : goal.returns-clause-ok
returns-clause-ok g c =
    let f = c.in-Some.ensures in
    let h = next_of_route c.self.inside _ c.in-Some.envelope c.self.invariant f.sound f.same f.found in
    let routes = (arc_value c.self.inside.channel).routes.items in
    let e = c.in-Some.envelope in
    let x = arrival_of routes e in
    let ok = c.in_ok-deliver.ensures.ok in (
      x ∷ [],
      ok.1 ∙ ap (λ (y : Channel). adding c.args.desk.now (arrival_of y.routes.items e)) c.deref-2.ensures,
      drained-push routes _ _ e _ x ok.0 h.2 refl ∙ ap (λ (d : Draining). d.drained ++ x ∷ []) c.self.view_is,
      arrivals_one _ _ _,
    )

pub returns-clause-drained : goal.returns-clause-drained
returns-clause-drained g c = owner_arrivals _ _ (invariant_of-self-2 g c) refl
