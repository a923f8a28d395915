-- Which configurations are allowed (ES 201 873-1, 9.1 and 21.1).
use Rattle.std.specs.Prelude.{◌≡◌, ◌≤◌, ◌<◌, ◌≢◌, true, false, List, length, All, AllPairs, Contains}
use Rattle.tp_config.specs.declared.port_type.PortRef.{PortRef}
use Rattle.tp_config.specs.Setup.{Setup, PortDecl, Member, IsPort, is_system, is_system_member, ins, outs, connecting}
use Rattle.tp_config.specs.Setup.{mapping}
use Rattle.tp_config.specs.Pairs.{partners}

-- each of the two ports receives everything that the other sends
abbrev pub Directed : List (List PortDecl) → List Member → PortRef → PortRef → Type 0
Directed t m p q = All (Contains (ins t m q)) (outs t m p) × All (Contains (ins t m p)) (outs t m q)

-- the system port q sends all that p sends, and p receives all that q receives
abbrev pub MapDirected : List (List PortDecl) → List Member → PortRef → PortRef → Type 0
MapDirected t m p q = All (Contains (outs t m q)) (outs t m p) × All (Contains (ins t m p)) (ins t m q)

-- a pair that may be connected: two different ports, neither of the test system interface, and each receives everything
-- that the other sends
pub record MayConnect (t : List (List PortDecl)) (m : List Member) (pair : PortRef × PortRef) : Type 0 where
  pub first_own : is_system m pair.0 ≡ false
  pub second_own : is_system m pair.1 ≡ false
  pub differ : pair.0 ≢ pair.1
  pub directed : Directed t m pair.0 pair.1

-- a pair that may be mapped: exactly one is a port of the test system interface, and the directions fit
pub record MayMap (t : List (List PortDecl)) (m : List Member) (pair : PortRef × PortRef) : Type 0 where
  pub one_system : is_system m pair.0 ≢ is_system m pair.1
  pub to_second : is_system m pair.1 ≡ true → MapDirected t m pair.0 pair.1
  pub to_first : is_system m pair.0 ≡ true → MapDirected t m pair.1 pair.0

-- a configuration is allowed
pub record Allowed (s : Setup) : Type 0 where
  pub may_connect : All (MayConnect s.types s.components) s.connected
  -- no port is connected with two different ports of one component
  pub one_of_each : (p q r : PortRef) → Contains (partners s.connected p) q → Contains (partners s.connected p) r
      → q.comp ≡ r.comp → q ≡ r
  pub may_map : All (MayMap s.types s.components) s.mapped
  -- no port is in two mapped pairs
  pub one_mapping : (p : PortRef) → length (partners s.mapped p) ≤ 1
  -- no port is in a connected pair and in a mapped one
  pub apart : (p q r : PortRef) → Contains (partners s.connected p) q → Contains (partners s.mapped p) r → ⊥

-- the pair is new, and the configuration with it is allowed
abbrev pub CanConnect : Setup → PortRef → PortRef → Type 0
CanConnect s p q = ¬ Contains (partners s.connected p) q × Allowed (connecting s p q)

-- the pair is new, and the configuration with it is allowed
abbrev pub CanMap : Setup → PortRef → PortRef → Type 0
CanMap s p q = ¬ Contains (partners s.mapped p) q × Allowed (mapping s p q)

-- both are ports of the configuration
abbrev pub ArePorts : Setup → PortRef × PortRef → Type 0
ArePorts s pair = IsPort s pair.0 × IsPort s pair.1

-- what holds for every configuration
pub record IsSetup (s : Setup) : Type 0 where
  pub allowed : Allowed s
  -- each pair is of two ports of the configuration
  pub connected_ports : All (ArePorts s) s.connected
  pub mapped_ports : All (ArePorts s) s.mapped
  -- no pair is connected twice
  pub once : (p : PortRef) → AllPairs (λ q r. q ≢ r) (partners s.connected p)
  pub few_ports : All (λ (ports : List PortDecl). length ports ≤ 64) s.types
  pub few_components : length s.components ≤ 64
  -- each component's type is one of the configuration's
  pub kinds : All (λ (m : Member). m.kind < length s.types) s.components
  -- no two components have the same name
  pub names_differ : AllPairs (λ (m n : Member). m.name ≢ n.name) s.components
  -- at most one component is the test system interface
  pub one_system :
      AllPairs (λ (m n : Member). ¬ ((is_system_member m ≡ true) × (is_system_member n ≡ true))) s.components
