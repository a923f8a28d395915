-- Where the routes into a component come from.
use Rattle.std.proofs.Common.{◌≡◌, ◌<◌, Contains, All, get_or, length, subst}
use Rattle.std.proofs.lemmas.List.Elements.{Contains-get_or}
use Rattle.tp_config.specs.declared.port_type.CompId.{CompId}
use Rattle.tp_config.specs.declared.port_type.PortRef.{PortRef}
use Rattle.tp_config.specs.declared.port_type.RouteId.{RouteId}
use Rattle.tp_config.specs.Setup.{Setup, IsComponent}
use Rattle.tp_config.specs.Allowed.{IsSetup}
use Rattle.tp_config.specs.Routes.{beside, route_to, routes_from, routes_into}
use Rattle.tp_config.proofs.PortPartnerLaws.{beside_back}
use Rattle.tp_config.proofs.RouteLaws.{beside_ports, both_ways, map_cases}
use Rattle.tp_config.proofs.RouteDestinations.{port_component, route_component}
use Rattle.tp_inbox.specs.Routed.{sources_of}
use Rattle.tp_exec.proofs.RoutesBySourceComponent.{source_from}

-- a port from which a route leads is one of a component
from_component : (s : Setup) → IsSetup s → (p : PortRef) (r : RouteId) → Contains (routes_from s p) r → IsComponent s r.source
unfolding routes_from
from_component s l p r h =
    let w = map_cases (route_to p) (beside s p) r h in
    subst (λ (x : RouteId). IsComponent s x.source) w.2 (port_component s p (beside_ports s l w.0 p (beside_back s p w.0 w.1)))

-- a route into a component comes from a component
pub source_within : (s : Setup) → IsSetup s → (c : CompId) (r : RouteId) → Contains (routes_into s c) r → IsComponent s r.source
source_within s l c r h = let w = (both_ways s l c r).0 h in from_component s l w.1.0 r w.1.1

-- and leads to it
pub leads_to : (s : Setup) → IsSetup s → (c : CompId) (r : RouteId) → Contains (routes_into s c) r → r.to.comp ≡ c
leads_to s l c r h = ((both_ways s l c r).0 h).0

-- which there is
pub receiver_within : (s : Setup) → IsSetup s → (c : CompId) (r : RouteId) → Contains (routes_into s c) r → IsComponent s r.to.comp
receiver_within s l c r h = let w = (both_ways s l c r).0 h in route_component s l w.1.0 r w.1.1

-- the components from which routes lead into a component are those of the configuration
pub sources_within : (s : Setup) → IsSetup s → (c : CompId) → All (λ (d : CompId). d.0 < length s.components) (sources_of (routes_into s c))
sources_within s l c = λ k d low.
    let from : CompId = get_or (sources_of (routes_into s c)) k d in
    let w = source_from (routes_into s c) from (Contains-get_or (sources_of (routes_into s c)) k d low) in
    subst (λ (e : CompId). e.0 < length s.components) w.2 (source_within s l c w.0 w.1)
