-- The causes of refusals, and their order.
use Rattle.std.specs.Prelude.{◌≡◌, ◌≢◌, ◌<◌, ◌≤◌, true, ◌⊎◌, List, [], ◌∷◌, length, Contains}
use Rattle.tp_config.specs.declared.port_type.PortRef.{PortRef}
use Rattle.tp_config.specs.declared.creating.CreateFault.{CreateFault}
use Rattle.tp_config.specs.declared.creating.CreateFault.TheVariants as create_fault
use Rattle.tp_config.specs.declared.connecting.ConnectFault.{ConnectFault}
use Rattle.tp_config.specs.declared.connecting.ConnectFault.TheVariants as connect_fault
use Rattle.tp_config.specs.declared.mapping.MapFault.{MapFault}
use Rattle.tp_config.specs.declared.mapping.MapFault.TheVariants as map_fault
use Rattle.tp_config.specs.Setup.{Setup, Member, names_of_components, is_system, is_system_member}
use Rattle.tp_config.specs.Allowed.{Directed, CanConnect, CanMap, MapDirected}
use Rattle.tp_config.specs.Pairs.{partners}

-- f is the first of the list whose cause holds
abbrev pub IsFirstCause : {F : Type 0} → (F → Type 0) → List F → F → Type 0
IsFirstCause Cause [] f = ⊥
IsFirstCause Cause (x ∷ xs) f = ((f ≡ x) × Cause x) ⊎ ((¬ Cause x) × IsFirstCause Cause xs f)

-- the order in which the causes of a refused create are checked
abbrev pub create_order : List CreateFault
create_order = create_fault.Duplicate ∷ create_fault.Limit ∷ []

-- a component is the test system interface
abbrev pub HasSystem : List Member → Type 0
HasSystem members = (m : Member) × Contains members m × (is_system_member m ≡ true)

-- a component has the name, or the component would be a second test system interface
abbrev pub IsTaken : Setup → Member → Type 0
IsTaken s m = Contains (names_of_components s) m.name ⊎ ((is_system_member m ≡ true) × HasSystem s.components)

-- the cause of each refusal of a create, whether or not the other causes hold
abbrev pub CreateCause : Setup → Member → CreateFault → Type 0
CreateCause s m create_fault.Duplicate = IsTaken s m
CreateCause s m create_fault.Limit = 64 ≤ length s.components
CreateCause s m create_fault.Memory = ⊥

-- the component is new, and there is room for it
abbrev pub CanCreate : Setup → Member → Type 0
CanCreate s m = (¬ IsTaken s m) × (length s.components < 64)

-- why a create is refused: by the first cause that holds, or, if the component can be created, out of memory
abbrev pub CreateRefused : Setup → Member → CreateFault → Type 0
CreateRefused s m create_fault.Memory = CanCreate s m
CreateRefused s m f = IsFirstCause (CreateCause s m) create_order f × ¬ CanCreate s m

-- the order in which the causes of a refused connect are checked
abbrev pub connect_order : List ConnectFault
connect_order =
    connect_fault.SystemPort ∷ connect_fault.SamePort ∷ connect_fault.Already ∷ connect_fault.Mixed ∷
    connect_fault.TwoPortsOfOne ∷ connect_fault.Directions ∷ []

-- p is in a pair of the list
abbrev pub IsInPair : List (PortRef × PortRef) → PortRef → Type 0
IsInPair pairs p = (q : PortRef) × Contains (partners pairs p) q

-- p is connected with a port of q's component other than q
abbrev pub HasOther : List (PortRef × PortRef) → PortRef → PortRef → Type 0
HasOther pairs p q = (r : PortRef) × Contains (partners pairs p) r × (r.comp ≡ q.comp) × (r ≢ q)

-- the cause of each refusal of a connect, whether or not the other causes hold
abbrev pub ConnectCause : Setup → PortRef → PortRef → ConnectFault → Type 0
ConnectCause s p q connect_fault.SystemPort = (is_system s.components p ≡ true) ⊎ (is_system s.components q ≡ true)
ConnectCause s p q connect_fault.SamePort = p ≡ q
ConnectCause s p q connect_fault.Already = Contains (partners s.connected p) q
ConnectCause s p q connect_fault.Mixed = IsInPair s.mapped p ⊎ IsInPair s.mapped q
ConnectCause s p q connect_fault.TwoPortsOfOne = HasOther s.connected p q ⊎ HasOther s.connected q p
ConnectCause s p q connect_fault.Directions = ¬ Directed s.types s.components p q
ConnectCause s p q connect_fault.Memory = ⊥

-- why a connect is refused: by the first cause that holds, or, if the pair can be connected, out of memory
abbrev pub ConnectRefused : Setup → PortRef → PortRef → ConnectFault → Type 0
ConnectRefused s p q connect_fault.Memory = CanConnect s p q
ConnectRefused s p q f = IsFirstCause (ConnectCause s p q) connect_order f × ¬ CanConnect s p q

-- the order in which the causes of a refused map are checked
abbrev pub map_order : List MapFault
map_order = map_fault.NotSystem ∷ map_fault.Mixed ∷ map_fault.NotOneToOne ∷ map_fault.MapDirections ∷ []

-- the cause of each refusal of a map, whether or not the other causes hold
abbrev pub MapCause : Setup → PortRef → PortRef → MapFault → Type 0
MapCause s p q map_fault.NotSystem = is_system s.components p ≡ is_system s.components q
MapCause s p q map_fault.Mixed = IsInPair s.connected p ⊎ IsInPair s.connected q
MapCause s p q map_fault.NotOneToOne = IsInPair s.mapped p ⊎ IsInPair s.mapped q
MapCause s p q map_fault.MapDirections =
    ¬ ((is_system s.components q ≡ true → MapDirected s.types s.components p q)
    × (is_system s.components p ≡ true → MapDirected s.types s.components q p))
MapCause s p q map_fault.Memory = ⊥

-- why a map is refused: by the first cause that holds, or, if the pair can be mapped, out of memory
abbrev pub MapRefused : Setup → PortRef → PortRef → MapFault → Type 0
MapRefused s p q map_fault.Memory = CanMap s p q
MapRefused s p q f = IsFirstCause (MapCause s p q) map_order f × ¬ CanMap s p q
