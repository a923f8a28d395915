-- Where the routes of a configuration lead.
use Rattle.std.proofs.Common.{◌⊎◌, inl, inr, ◌<◌, ◌≤◌, Contains, IsSome, Option, [], length, slice_get, subst, sym, true≢false}
use Rattle.std.specs.List.{slice_index_or}
use Rattle.std.specs.Option.{option_map_or}
use Rattle.std.proofs.lemmas.Bool.{cases_lt}
use Rattle.std.proofs.lemmas.Option.{slice_get_past}
use Rattle.tp_config.specs.declared.port_type.PortRef.{PortRef}
use Rattle.tp_config.specs.declared.port_type.RouteId.{RouteId}
use Rattle.tp_config.specs.Setup.{Setup, Member, IsComponent, IsPort, decl_at, ports_at}
use Rattle.tp_config.specs.Allowed.{IsSetup}
use Rattle.tp_config.specs.Routes.{beside, route_to, routes_from}
use Rattle.tp_config.proofs.RouteLaws.{beside_ports, map_cases}

-- a port of the configuration is one of a component of the configuration
pub port_component : (s : Setup) (p : PortRef) → IsPort s p → IsComponent s p.comp
unfolding decl_at ports_at
port_component s p h = by (cases_lt p.comp.0 (length s.components)) where
  by : (p.comp.0 < length s.components) ⊎ (length s.components ≤ p.comp.0) → IsComponent s p.comp
  by (inl below) = below
  by (inr past) =
      absurd (true≢false (sym (subst (λ (o : Option Member). IsSome (slice_get (option_map_or (λ (m : Member). slice_index_or s.types m.kind []) o []) p.port))
      (slice_get_past s.components p.comp.0 past) h)))

-- a route leads to a port of the configuration, and so to one of its components
pub route_leads : (s : Setup) → IsSetup s → (p : PortRef) (r : RouteId) → Contains (routes_from s p) r → IsPort s r.to
unfolding routes_from
route_leads s l p r h = let w = map_cases (route_to p) (beside s p) r h in subst (λ (x : RouteId). IsPort s x.to) w.2 (beside_ports s l p w.0 w.1)

pub route_component : (s : Setup) → IsSetup s → (p : PortRef) (r : RouteId) → Contains (routes_from s p) r → IsComponent s r.to.comp
route_component s l p r h = port_component s r.to (route_leads s l p r h)
