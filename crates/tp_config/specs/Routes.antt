-- The routes of a configuration.
use Rattle.std.specs.Prelude.{◌≡◌, ◌↔◌, ℕ, zero, suc, ◌≤◌, ◌≢◌, Option, Some, None, List, [], ◌∷◌, ◌++◌, map, length}
use Rattle.std.specs.Prelude.{All, AllPairs, Contains}
use Rattle.tp_config.specs.declared.port_type.CompId.{CompId}
use Rattle.tp_config.specs.declared.port_type.PortRef.{PortRef}
use Rattle.tp_config.specs.declared.port_type.RouteId.{RouteId}
use Rattle.tp_config.specs.declared.routes.RouteFault.{RouteFault}
use Rattle.tp_config.specs.declared.routes.RouteFault.TheVariants.{NoRoute, NeedsTo}
use Rattle.tp_config.specs.Pairs.{partners}
use Rattle.tp_config.specs.Setup.{Setup, ports_at}

-- the route from a port of p's component to the port q
abbrev pub route_to : PortRef → PortRef → RouteId
route_to p q = record { source = p.comp; to = q }

-- the ports with which p forms a connected or a mapped pair, in the order of the statements
unfoldable pub beside : Setup → PortRef → List PortRef
beside s p = partners (s.connected ++ s.mapped) p

-- the routes from a port, in the order of the statements
unfoldable pub routes_from : Setup → PortRef → List RouteId
routes_from s p = map (route_to p) (beside s p)

-- the routes that end at the first n ports of the component, by port and then in the order of the statements
abbrev pub routes_below : Setup → CompId → ℕ → List RouteId
routes_below s c zero = []
routes_below s c (suc n) =
    let p : PortRef = record { comp = c; port = n } in routes_below s c n ++ map (λ q. route_to q p) (beside s p)

-- the routes that end at a port of the component, by port and then in the order of the statements
unfoldable pub routes_into : Setup → CompId → List RouteId
routes_into s c = routes_below s c (length (ports_at s.types s.components c))

-- r is the only one of these routes, or the one of them to the component named
abbrev pub IsRouteOf : List RouteId → Option CompId → RouteId → Type 0
IsRouteOf routes None r = routes ≡ r ∷ []
IsRouteOf routes (Some c) r = Contains routes r × (r.to.comp ≡ c)

-- why there is no such route: there is none at all, or none to the component named; or there are several, and no
-- component is named
abbrev pub RouteCauseOf : List RouteId → Option CompId → RouteFault → Type 0
RouteCauseOf routes None NoRoute = routes ≡ []
RouteCauseOf routes (Some c) NoRoute = All (λ (r : RouteId). r.to.comp ≢ c) routes
RouteCauseOf routes None NeedsTo = 2 ≤ length routes
RouteCauseOf routes (Some c) NeedsTo = ⊥

-- the route from the port p, or the one from it to the component named
abbrev pub IsRoute : Setup → PortRef → Option CompId → RouteId → Type 0
IsRoute s p to r = IsRouteOf (routes_from s p) to r

-- why there is no such route
abbrev pub RouteCause : Setup → PortRef → Option CompId → RouteFault → Type 0
RouteCause s p to f = RouteCauseOf (routes_from s p) to f

-- no two of the routes are equal
abbrev pub AreDistinctRoutes : List RouteId → Type 0
AreDistinctRoutes routes = AllPairs (λ r t. r ≢ t) routes

-- a route determines the port that sends on it
abbrev pub SendersAreDetermined : Setup → Type 0
SendersAreDetermined s =
    (p q : PortRef) (r : RouteId) → Contains (routes_from s p) r → Contains (routes_from s q) r → p ≡ q

-- the routes into a component are those from any port to a port of it
abbrev pub AreRoutesInto : Setup → CompId → List RouteId → Type 0
AreRoutesInto s c routes =
    (r : RouteId) → Contains routes r ↔ ((r.to.comp ≡ c) × ((p : PortRef) × Contains (routes_from s p) r))
