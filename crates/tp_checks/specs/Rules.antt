-- The rules on names and definitions.
use Rattle.std.specs.Prelude.{◌≡◌, ◌<◌, ◌≤◌, ◌⊎◌, ℕ, Bool, Option, Some, List, [], All, Contains}
use Rattle.std.specs.Prelude.{◌∷◌, IfSome, IsSome, IsTrue, codes, is_some, length, map}
use Rattle.std.specs.List.{list_all}
use Rattle.tp_tree.specs.declared.tree.{Module.Module, Definition.Definition, Defined.Defined, Function.Function}
use Rattle.tp_tree.specs.declared.tree.{ComponentType.ComponentType, Direction.Direction, PortType.PortType}
use Rattle.tp_tree.specs.declared.tree.TestCase.{TestCase}
use Rattle.tp_tree.specs.declared.tree.Defined.TheVariants as defined
use Rattle.tp_tree.specs.declared.message.TypeName.{TypeName}
use Rattle.tp_checks.specs.declared.fault.ModuleRule.TheVariants.{Unknown, Limit}
use Rattle.tp_checks.specs.declared.fault.{ModuleFault.ModuleFault, ModuleFault.TheVariants.Refused}
use Rattle.tp_checks.specs.{Tables.AreDistinct, Tables.IsNumbered, Tables.place_of_name, Resolved.ty_of}
use Rattle.tp_checks.specs.Definitions.{of_kind, case_of, declared_ports, definition_names, inner_names, name_of}
use Rattle.tp_checks.specs.Definitions.{test_cases, type_of}

-- no name is given twice, and each has a number of 32 bits
pub record HasUniqueNames (m : Module) : Type 0 where
  -- the names of the definitions are distinct, and fewer than 2 ^ 32
  pub definitions : IsNumbered (definition_names m)
  -- within each definition the names of its fields, ports or parameters are distinct, and fewer than 2 ^ 32
  pub inner : All (λ (x : Definition). IsNumbered (inner_names x.defined)) m.definitions

-- there is exactly one test case
abbrev pub HasOneTestCase : Module → Type 0
HasOneTestCase m = (case : TestCase) × (test_cases m ≡ case ∷ [])

-- no name of these definitions is given twice, and there is at most one test case among them
pub record AreNamed (definitions : List Definition) : Type 0 where
  pub names : IsNumbered (map (λ (x : Definition). name_of x.defined) definitions)
  pub inner : All (λ (x : Definition). IsNumbered (inner_names x.defined)) definitions
  pub one_case : length (of_kind case_of definitions) ≤ 1

-- a type name names a type
abbrev pub NamesType : List (List ℕ) → TypeName → Type 0
NamesType types name = IsSome (ty_of types name)

-- each type of a field, of elements or of messages is known
abbrev pub AreTypesKnown : List (List ℕ) → Defined → Type 0
AreTypesKnown types (defined.Record r) = All (λ f. NamesType types f.type_name) r.fields
AreTypesKnown types (defined.List l) = NamesType types l.element
AreTypesKnown types (defined.Port p) = All (λ w. All (NamesType types) w.types) p.directions
AreTypesKnown types (defined.Component c) = Unit {0}
AreTypesKnown types (defined.Function f) = Unit {0}
AreTypesKnown types (defined.TestCase c) = Unit {0}

-- the type of each port of a component type is a known port type
abbrev pub ArePortTypesKnown : List (List ℕ) → Defined → Type 0
ArePortTypesKnown ports (defined.Record r) = Unit {0}
ArePortTypesKnown ports (defined.List l) = Unit {0}
ArePortTypesKnown ports (defined.Port p) = Unit {0}
ArePortTypesKnown ports (defined.Component c) = All (λ p. Contains ports p.type_name) c.ports
ArePortTypesKnown ports (defined.Function f) = Unit {0}
ArePortTypesKnown ports (defined.TestCase c) = Unit {0}

-- each component type after `runs on` or `system`, or of a parameter, is known
abbrev pub AreComponentTypesKnown : List (List ℕ) → Defined → Type 0
AreComponentTypesKnown components (defined.Record r) = Unit {0}
AreComponentTypesKnown components (defined.List l) = Unit {0}
AreComponentTypesKnown components (defined.Port p) = Unit {0}
AreComponentTypesKnown components (defined.Component c) = Unit {0}
AreComponentTypesKnown components (defined.Function f) =
    Contains components f.runs_on
    × All (λ p. Contains components p.type_name) f.parameters
AreComponentTypesKnown components (defined.TestCase c) =
    Contains components c.runs_on × IfSome c.system (λ s. Contains components s)

-- a component type has at most 64 ports
abbrev pub HasFewPorts : Defined → Type 0
HasFewPorts (defined.Record r) = Unit {0}
HasFewPorts (defined.List l) = Unit {0}
HasFewPorts (defined.Port p) = Unit {0}
HasFewPorts (defined.Component c) = length (declared_ports c.ports) ≤ 64
HasFewPorts (defined.Function f) = Unit {0}
HasFewPorts (defined.TestCase c) = Unit {0}

-- whether each message type of the directions is known
abbrev pub has_known_messages : List (List ℕ) → List Direction → Bool
has_known_messages types directions =
    list_all (λ w. list_all (λ n. is_some (ty_of types n)) w.types) directions

-- whether the type of each port of a component type is among these names
abbrev pub has_known_ports : List (List ℕ) → ComponentType → Bool
has_known_ports ports c = list_all (λ p. is_some (place_of_name ports p.type_name)) c.ports

-- whether the type of each parameter of a function is among these names
abbrev pub has_known_parameters : List (List ℕ) → Function → Bool
has_known_parameters components f =
    list_all (λ p. is_some (place_of_name components p.type_name)) f.parameters

-- the fault of a component type, at its line: the type of a port is unknown (11); or each is known, and there are more
-- than 64 ports (15)
abbrev pub IsComponentFault : List (List ℕ) → ComponentType → ℕ → ModuleFault → Type 0
IsComponentFault ports c line fault =
    ((¬ IsTrue (has_known_ports ports c)) × (fault ≡ Refused Unknown line))
    ⊎ (IsTrue (has_known_ports ports c) × (64 < length (declared_ports c.ports)) × (fault ≡ Refused Limit line))

-- the name of the function that plays the system under test
abbrev pub sut : List ℕ
sut = codes "sut"

-- a function has no parameters, and runs on the component type after `system`
abbrev pub CanPlaySystem : Option (List ℕ) → Function → Type 0
CanPlaySystem system f = (f.parameters ≡ []) × (system ≡ Some f.runs_on)

-- a function named `sut` can play the system under test
abbrev pub PlaysSystem : Option (List ℕ) → Defined → Type 0
PlaysSystem system (defined.Record r) = Unit {0}
PlaysSystem system (defined.List l) = Unit {0}
PlaysSystem system (defined.Port p) = Unit {0}
PlaysSystem system (defined.Component c) = Unit {0}
PlaysSystem system (defined.Function f) = f.name ≡ sut → CanPlaySystem system f
PlaysSystem system (defined.TestCase c) = Unit {0}

-- the rules on a function, given the names of the component types and the name after `system`
abbrev pub IsSoundFunction : List (List ℕ) → Option (List ℕ) → Function → Type 0
IsSoundFunction components system f =
    AreComponentTypesKnown components (defined.Function f) × PlaysSystem system (defined.Function f)

-- the rules on one definition, given the names of the types, port types and component types, and the name after
-- `system`
pub record IsSound (types ports components : List (List ℕ)) (system : Option (List ℕ)) (x : Defined) : Type 0 where
  pub types_known : AreTypesKnown types x
  pub port_types_known : ArePortTypesKnown ports x
  pub component_types_known : AreComponentTypesKnown components x
  pub few_ports : HasFewPorts x
  pub plays_system : PlaysSystem system x

-- each is a record or record-of type whose types are known; their names are distinct, and fewer than 2 ^ 32
pub record AreSoundTypes (types : List (List ℕ)) (xs : List Defined) : Type 0 where
  pub kinds : All (λ x. IsSome (type_of x)) xs
  pub known : All (AreTypesKnown types) xs
  pub names : IsNumbered (map name_of xs)

-- each message type of a port type is known
abbrev pub AreMessagesKnown : List (List ℕ) → PortType → Type 0
AreMessagesKnown types p = AreTypesKnown types (defined.Port p)

-- the rules on a component type, given the names of the port types
pub record IsSoundComponent (ports : List (List ℕ)) (c : ComponentType) : Type 0 where
  pub known : ArePortTypesKnown ports (defined.Component c)
  pub few : HasFewPorts (defined.Component c)
  -- no two ports have the same name
  pub distinct : AreDistinct (declared_ports c.ports)
