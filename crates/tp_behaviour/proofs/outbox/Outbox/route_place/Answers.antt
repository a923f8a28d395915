-- A route that a sender has stands in the table, with the places of the two.
use Rattle.std.proofs.Common.{◌≡◌, ◌∙◌, sym, subst, Some, slice_get}
use Rattle.std.proofs.lemmas.Option.{same_Some}
use Rattle.tp_behaviour.specs.declared.outbox.RoutePlace.{RoutePlace}
use Rattle.tp_behaviour.proofs.OutboxSendersByRoute.{below_length, standing}
use Rattle.tp_behaviour.proofs.outbox.Outbox.route_place.Goals as goal

-- a sender has the route, and the table its place
pub unreachable-requires : goal.unreachable-requires
unreachable-requires c =
    let h = standing c.args.route c.args.self.now c.requires in
    let at = subst (λ l. slice_get l h.0 ≡ Some h.1) (sym c.self.view_is) h.3 in
    let there = c.self.invariant.found h.0 h.1 at h.2 c.args.route (below_length h.1.routes h.2 c.args.route h.4) h.4 in
    let none = c.in-None.ensures.value ∙ there in
    cc

pub returns : goal.returns
returns c =
    let h = standing c.args.route c.args.self.now c.requires in
    let at = subst (λ l. slice_get l h.0 ≡ Some h.1) (sym c.self.view_is) h.3 in
    let there = c.self.invariant.found h.0 h.1 at h.2 c.args.route (below_length h.1.routes h.2 c.args.route h.4) h.4 in
    let place : RoutePlace = record { sender = h.0; route_index = h.2 } in
    let same = same_Some c.in-Some-get.place.now place (c.in-Some-get.ensures.value ∙ there) in (
      h.1,
      subst (λ (p : RoutePlace). slice_get c.args.self.now p.sender ≡ Some h.1) (sym same) h.3,
      subst (λ (p : RoutePlace). slice_get h.1.routes p.route_index ≡ Some c.args.route) (sym same) h.4,
    )
