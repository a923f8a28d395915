-- What a configuration is made of.
use Rattle.std.specs.Prelude.{ℕ, ◌<◌, Bool, true, false, Option, List, [], ◌∷◌, ◌++◌, map, length, slice_get, IsSome}
use Rattle.std.specs.List.{slice_index_or}
use Rattle.std.specs.Option.{option_map_or}
use Rattle.tp_value.specs.declared.types.Ty.{Ty}
use Rattle.tp_config.specs.declared.port_type.Role.{Role}
use Rattle.tp_config.specs.declared.port_type.Role.TheVariants.{Test, System}
use Rattle.tp_config.specs.declared.port_type.CompId.{CompId}
use Rattle.tp_config.specs.declared.port_type.PortRef.{PortRef}

-- a port of a component type: the bytes of its name, and the message types that it receives and sends
pub record PortDecl : Type 0 where
  pub name : List ℕ
  pub ins : List Ty
  pub outs : List Ty

-- a component: the bytes of its name, the place of its type, and its role
pub record Member : Type 0 where
  pub name : List ℕ
  pub kind : ℕ
  pub role : Role

-- a configuration: the ports of each component type, the components, and the pairs in the order of their statements
pub record Setup : Type 0 where
  pub types : List (List PortDecl)
  pub components : List Member
  pub connected : List (PortRef × PortRef)
  pub mapped : List (PortRef × PortRef)

-- whether the role is that of the test system interface
abbrev pub is_system_role : Role → Bool
is_system_role Test = false
is_system_role System = true

-- whether the component is the test system interface
abbrev pub is_system_member : Member → Bool
is_system_member m = is_system_role m.role

-- whether the port is one of the test system interface
unfoldable pub is_system : List Member → PortRef → Bool
is_system members p = option_map_or is_system_member (slice_get members p.comp.0) false

-- the ports of a component, as its type declares them
unfoldable pub ports_at : List (List PortDecl) → List Member → CompId → List PortDecl
ports_at types members c = option_map_or (λ (m : Member). slice_index_or types m.kind []) (slice_get members c.0) []

-- the declaration of a port
unfoldable pub decl_at : List (List PortDecl) → List Member → PortRef → Option PortDecl
decl_at types members p = slice_get (ports_at types members p.comp) p.port

-- the types that a port receives
unfoldable pub ins : List (List PortDecl) → List Member → PortRef → List Ty
ins types members p = option_map_or (λ (d : PortDecl). d.ins) (decl_at types members p) []

-- the types that a port sends
unfoldable pub outs : List (List PortDecl) → List Member → PortRef → List Ty
outs types members p = option_map_or (λ (d : PortDecl). d.outs) (decl_at types members p) []

-- the component is one of the configuration
abbrev pub IsComponent : Setup → CompId → Type 0
IsComponent s c = c.0 < length s.components

-- the port is one of the configuration
abbrev pub IsPort : Setup → PortRef → Type 0
IsPort s p = IsSome (decl_at s.types s.components p)

-- the names of the components, by their numbers
abbrev pub names_of_components : Setup → List (List ℕ)
names_of_components s = map (λ (m : Member). m.name) s.components

-- the names of the ports of a component, by their numbers
abbrev pub port_names : Setup → CompId → List (List ℕ)
port_names s c = map (λ (d : PortDecl). d.name) (ports_at s.types s.components c)

-- the configuration of these types without components and pairs
abbrev pub empty_setup : List (List PortDecl) → Setup
empty_setup types = record { types = types; components = []; connected = []; mapped = [] }

-- the configuration with one more component
abbrev pub creating : Setup → Member → Setup
creating s m = record s { components = s.components ++ m ∷ [] }

-- the configuration with one more connected pair
abbrev pub connecting : Setup → PortRef → PortRef → Setup
connecting s p q = record s { connected = s.connected ++ (p, q) ∷ [] }

-- the configuration with one more mapped pair
abbrev pub mapping : Setup → PortRef → PortRef → Setup
mapping s p q = record s { mapped = s.mapped ++ (p, q) ∷ [] }
