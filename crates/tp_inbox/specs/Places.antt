-- The places of routes in a list, as a table gives them; and which routes of a table stay as they were.
use Rattle.std.specs.Prelude.{◌≡◌, ◌≢◌, ◌<◌, ℕ, Bool, Some, List, All}
use Rattle.indexmap.specs.IndexMap.{IndexMap, get}
use Rattle.tp_config.specs.declared.port_type.RouteId.{RouteId}
use Rattle.tp_config.specs.contracts.port_type.RouteIdPartialEq.TheImpl.{eq-value}
use Rattle.tp_inbox.specs.Routed.{route_at}

-- the result of `==` for two routes
abbrev pub route_eq : RouteId → RouteId → Bool
route_eq = eq-value.it

-- each of the first n of these routes is found at its place, and no other route is found
pub record AreFiled {S : Type 0} (n : ℕ) (routes : List RouteId) (places : IndexMap RouteId ℕ S) : Type 0 where
  pub found : (k : ℕ) → k < n → get route_eq places (route_at routes k) ≡ Some k
  pub known : (r : RouteId) (k : ℕ) → get route_eq places r ≡ Some k → (k < n) × (route_at routes k ≡ r)

-- for a route that is none of these, the table is as before
abbrev pub KeepsOtherRoutes : {V S : Type 0} → List RouteId → IndexMap RouteId V S → IndexMap RouteId V S → Type 0
KeepsOtherRoutes routes before after =
    (r : RouteId) → All (λ (q : RouteId). q ≢ r) routes → get route_eq after r ≡ get route_eq before r
