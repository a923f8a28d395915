-- The causes of refusals as tests that can be computed, from the partners of the ports.
use Rattle.std.specs.Prelude.{ℕ, Bool, true, false, ◌||◌, ◌&&◌, not, ◌==◌, nat_le, List, length}
use Rattle.std.specs.List.{list_any, list_all}
use Rattle.std.specs.Str.{bytes_eq}
use Rattle.tp_value.specs.declared.types.Ty.{Ty}
use Rattle.tp_config.specs.declared.port_type.PortRef.{PortRef}
use Rattle.tp_config.specs.declared.port_type.Role.{Role}
use Rattle.tp_config.specs.declared.creating.CreateFault.{CreateFault}
use Rattle.tp_config.specs.declared.creating.CreateFault.TheVariants as create_fault
use Rattle.tp_config.specs.declared.connecting.ConnectFault.{ConnectFault}
use Rattle.tp_config.specs.declared.connecting.ConnectFault.TheVariants as connect_fault
use Rattle.tp_config.specs.declared.mapping.MapFault.{MapFault}
use Rattle.tp_config.specs.declared.mapping.MapFault.TheVariants as map_fault
use Rattle.tp_config.specs.Types.{same_type}
use Rattle.tp_config.specs.Pairs.{same_port}
use Rattle.tp_config.specs.Setup.{PortDecl, Member, is_system, is_system_role, is_system_member, ins, outs}
use Rattle.tp_config.specs.Links.{links_at}

-- a component has the name
abbrev pub has_name : List Member → List ℕ → Bool
has_name members name = list_any (λ (m : Member). bytes_eq m.name name) members

-- a component is the test system interface
abbrev pub has_system : List Member → Bool
has_system members = list_any is_system_member members

-- the causes of a refused create
abbrev pub create_test : List Member → List ℕ → Role → CreateFault → Bool
create_test members name role create_fault.Duplicate =
    has_name members name || (is_system_role role && has_system members)
create_test members name role create_fault.Limit = nat_le 64 (length members)
create_test members name role create_fault.Memory = false

-- both are true, or neither is
abbrev pub same_bool : Bool → Bool → Bool
same_bool true b = b
same_bool false b = not b

-- q is a partner of p
unfoldable pub is_beside : List (List (List PortRef)) → PortRef → PortRef → Bool
is_beside links p q = list_any (λ r. same_port r q) (links_at links p)

-- another port of q's component is a partner of p
unfoldable pub has_other : List (List (List PortRef)) → PortRef → PortRef → Bool
has_other links p q = list_any (λ r. (r.comp.0 == q.comp.0) && not (same_port r q)) (links_at links p)

-- p is connected: it has a partner, and both or neither are ports of the test system interface
unfoldable pub is_connected : List Member → List (List (List PortRef)) → PortRef → Bool
is_connected m links p = list_any (λ r. same_bool (is_system m p) (is_system m r)) (links_at links p)

-- p is mapped: it has a partner, and exactly one of the two is a port of the test system interface
unfoldable pub is_mapped : List Member → List (List (List PortRef)) → PortRef → Bool
is_mapped m links p = list_any (λ r. not (same_bool (is_system m p) (is_system m r))) (links_at links p)

-- each of these types is one of those
unfoldable pub are_among : List Ty → List Ty → Bool
are_among these those = list_all (λ ty. list_any (λ other. same_type other ty) those) these

-- the causes of a refused connect; a test is exact if no cause before its own holds
abbrev pub connect_test :
    List (List PortDecl) → List Member → List (List (List PortRef)) → PortRef → PortRef → ConnectFault → Bool
connect_test t m links p q connect_fault.SystemPort = is_system m p || is_system m q
connect_test t m links p q connect_fault.SamePort = same_port p q
connect_test t m links p q connect_fault.Already = is_beside links p q
connect_test t m links p q connect_fault.Mixed = is_mapped m links p || is_mapped m links q
connect_test t m links p q connect_fault.TwoPortsOfOne = has_other links p q || has_other links q p
connect_test t m links p q connect_fault.Directions =
    not (are_among (outs t m p) (ins t m q) && are_among (outs t m q) (ins t m p))
connect_test t m links p q connect_fault.Memory = false

-- the system port q sends all that p sends, and p receives all that q receives
abbrev pub map_directed : List (List PortDecl) → List Member → PortRef → PortRef → Bool
map_directed t m p q = are_among (outs t m p) (outs t m q) && are_among (ins t m q) (ins t m p)

-- the causes of a refused map
abbrev pub map_test :
    List (List PortDecl) → List Member → List (List (List PortRef)) → PortRef → PortRef → MapFault → Bool
map_test t m links p q map_fault.NotSystem = same_bool (is_system m p) (is_system m q)
map_test t m links p q map_fault.Mixed = is_connected m links p || is_connected m links q
map_test t m links p q map_fault.NotOneToOne = is_mapped m links p || is_mapped m links q
map_test t m links p q map_fault.MapDirections =
    not ((not (is_system m q) || map_directed t m p q) && (not (is_system m p) || map_directed t m q p))
map_test t m links p q map_fault.Memory = false
