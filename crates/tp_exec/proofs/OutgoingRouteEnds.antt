-- Where the routes from a port come from, and where they lead.
use Rattle.std.proofs.Common.{◌≡◌, ◌<◌, Contains, length, refl, ap, sym}
use Rattle.tp_config.specs.declared.port_type.PortRef.{PortRef}
use Rattle.tp_config.specs.declared.port_type.RouteId.{RouteId}
use Rattle.tp_config.specs.Setup.{Setup}
use Rattle.tp_config.specs.Allowed.{IsSetup}
use Rattle.tp_config.specs.Routes.{beside, route_to, routes_from, routes_into}
use Rattle.tp_config.proofs.RouteLaws.{both_ways, map_cases}
use Rattle.tp_config.proofs.RouteDestinations.{route_component}

-- a route from a port comes from its component
pub source_is : (s : Setup) (p : PortRef) (r : RouteId) → Contains (routes_from s p) r → r.source ≡ p.comp
unfolding routes_from
source_is s p r h = let w = map_cases (route_to p) (beside s p) r h in sym (ap (λ (x : RouteId). x.source) w.2)

-- a route from a port is one into the component that it leads to
pub among_those_into : (s : Setup) → IsSetup s → (p : PortRef) (r : RouteId) → Contains (routes_from s p) r → Contains (routes_into s r.to.comp) r
among_those_into s l p r h = (both_ways s l r.to.comp r).1 (refl, (p, h))

-- which is one of the configuration
pub receiver_within : (s : Setup) → IsSetup s → (p : PortRef) (r : RouteId) → Contains (routes_from s p) r → r.to.comp.0 < length s.components
receiver_within s l p r h = route_component s l p r h
