-- The routes of a sender, as they are filed one after the other.
use Rattle.std.proofs.Common.{◌≡◌, ◌≢◌, inl, inr, ℕ, ◌+◌, ◌<◌, Some, List, length, slice_get, sym, ap, ◌∙◌, subst, arith}
use Rattle.std.specs.Prelude.{AllPairs}
use Rattle.std.proofs.lemmas.Option.{get_or_from_slice_get}
use Rattle.indexmap.specs.IndexMap.{IndexMap, Updates, get}
use Rattle.tp_config.specs.declared.port_type.RouteId.{RouteId}
use Rattle.tp_inbox.specs.Places.{KeepsOtherRoutes, route_eq}
use Rattle.tp_inbox.specs.Routed.{absent_route, route_at}
use Rattle.tp_inbox.proofs.EnvelopesOfOneRoute.{same_or_not}
use Rattle.tp_behaviour.specs.declared.outbox.RoutePlace.{RoutePlace}
use Rattle.tp_behaviour.specs.Outboxes.{AreFiledAt}
use Rattle.tp_behaviour.proofs.OutboxSendersByRoute.{other_route}

-- one route more is filed
pub file_next : {S : Type 0} (routes : List RouteId) (place way : ℕ) (places after : IndexMap RouteId RoutePlace S)
    → AllPairs (λ (r q : RouteId). r ≢ q) routes → way < length routes → AreFiledAt way routes place places
    → Updates route_eq places after (route_at routes way) (Some record { sender = place; route_index = way }) → AreFiledAt (way + 1) routes place after
file_next routes place way places after apart low filed updates w r below here =
    elim (same_or_not w way) [
      | inl same ↦ (
          let is : route_at routes way ≡ r =
          get_or_from_slice_get routes way r absent_route (subst (λ n. slice_get routes n ≡ Some r) same here) in
          subst (λ q. get route_eq after q ≡ Some record { sender = place; route_index = w }) is
          (updates.1 ∙ ap (λ n. Some record { sender = place; route_index = n }) (sym same))
          )
      | inr other ↦ (
          let sooner : w < way = omega (arith, below, other) in
          let unlike : r ≡ route_at routes way → ⊥ =
          λ e. apart w way absent_route sooner low (get_or_from_slice_get routes w r absent_route here ∙ e) in
          updates.2 r (other_route (route_at routes way) r unlike) ∙ filed w r sooner here
          )
    ]

-- and routes that are none of the sender's stay as they were
pub others_next : {S : Type 0} (routes : List RouteId) (place way : ℕ) (first places after : IndexMap RouteId RoutePlace S)
    → way < length routes → KeepsOtherRoutes routes first places
    → Updates route_eq places after (route_at routes way) (Some record { sender = place; route_index = way }) → KeepsOtherRoutes routes first after
others_next routes place way first places after low keeps updates r none =
    updates.2 r (other_route (route_at routes way) r (λ e. none way absent_route low (sym e))) ∙ keeps r none
