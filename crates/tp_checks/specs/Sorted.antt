-- The definitions of a module, sorted by their kinds.
use Rattle.std.specs.{Prelude.◌≡◌, Prelude.ℕ, Prelude.Option, Prelude.List, Prelude.All, Prelude.map, List.AllZip}
use Rattle.tp_tree.specs.declared.tree.{Module.Module, Definition.Definition, Defined.Defined, PortType.PortType}
use Rattle.tp_tree.specs.declared.tree.{ComponentType.ComponentType, Function.Function, TestCase.TestCase}
use Rattle.tp_checks.specs.declared.sorted.Sorted.{Sorted}
use Rattle.tp_config.specs.declared.port_type.{CompType.CompType, PortType.PortType as PortLists}
use Rattle.tp_checks.specs.Rules.{AreMessagesKnown, AreSoundTypes, IsSound, IsSoundComponent}
use Rattle.tp_checks.specs.{Resolved.IsComponentType, Resolved.IsMade, Definitions.port_type_of}
use Rattle.tp_checks.specs.Definitions.{of_kind, component_type_of, component_type_names, function_of, name_of}
use Rattle.tp_checks.specs.Definitions.{port_type_names, type_names, type_of}

-- these are the definitions of one kind, and their names
pub record AreOfKind {T : Type 0} (kind : Defined → Option T) (name : T → List ℕ) (definitions : List Definition)
    (names : List (List ℕ)) (items : List T) : Type 0 where
  pub items_are : items ≡ of_kind kind definitions
  pub names_are : names ≡ map name (of_kind kind definitions)

abbrev pub TypeDefinitions : List Definition → List (List ℕ) → List Defined → Type 0
TypeDefinitions = AreOfKind type_of name_of

abbrev pub PortTypes : List Definition → List (List ℕ) → List PortType → Type 0
PortTypes = AreOfKind port_type_of (λ p. p.name)

abbrev pub ComponentTypes : List Definition → List (List ℕ) → List ComponentType → Type 0
ComponentTypes = AreOfKind component_type_of (λ c. c.name)

abbrev pub Functions : List Definition → List (List ℕ) → List Function → Type 0
Functions = AreOfKind function_of (λ f. f.name)

-- the definitions of the module are sorted by kind, with their names
pub record AreSorted (m : Module) (s : Sorted) : Type 0 where
  pub types : TypeDefinitions m.definitions s.type_names (map (λ x. x.now) s.types.items)
  pub ports : PortTypes m.definitions s.port_names (map (λ x. x.now) s.port_types.items)
  pub components : ComponentTypes m.definitions s.component_names (map (λ x. x.now) s.component_types.items)
  pub functions : Functions m.definitions s.function_names (map (λ x. x.now) s.functions.items)

-- the sorted definitions of each kind
abbrev pub types_in : Sorted → List Defined
types_in s = map (λ x. x.now) s.types.items

abbrev pub port_types_in : Sorted → List PortType
port_types_in s = map (λ p. p.now) s.port_types.items

abbrev pub component_types_in : Sorted → List ComponentType
component_types_in s = map (λ c. c.now) s.component_types.items

abbrev pub functions_in : Sorted → List Function
functions_in s = map (λ f. f.now) s.functions.items

-- a definition, given the sorted component types and their names
abbrev pub in_sorted : {A : Type 1} → (List (List ℕ) → List ComponentType → A) → Sorted → A
in_sorted definition s = definition s.component_names (component_types_in s)

-- these are the sorted component types, with their ports
abbrev pub AreComponentTypesIn : Sorted → List CompType → Type 0
AreComponentTypesIn s made = AllZip (IsComponentType s.type_names (port_types_in s)) (component_types_in s) made

-- a definition obeys the rules, given the names of each kind of sorted definition
abbrev pub IsSoundIn : Sorted → Option (List ℕ) → Definition → Type 0
IsSoundIn s system x = IsSound s.type_names s.port_names s.component_names system x.defined

-- each definition obeys these rules
abbrev pub AreSound : Sorted → Option (List ℕ) → List Definition → Type 0
AreSound s system definitions = All (IsSoundIn s system) definitions

-- the sorted definitions obey the rules, each kind by itself
pub record IsSortedSound (s : Sorted) : Type 0 where
  pub types : AreSoundTypes s.type_names (types_in s)
  pub ports : All (AreMessagesKnown s.type_names) (port_types_in s)
  pub components : All (IsSoundComponent s.port_names) (component_types_in s)

-- these are the types that the port types receive and send
pub record HasMade (s : Sorted) (made : List PortLists) : Type 0 where
  pub names : s.port_names ≡ map (λ (p : PortType). p.name) (port_types_in s)
  pub lists : AllZip (IsMade s.type_names) (port_types_in s) made

-- each definition of the module with this test case obeys the rules on definitions
abbrev pub HasSoundDefinitions : Module → TestCase → Type 0
HasSoundDefinitions m case =
    All (λ (x : Definition).
    IsSound (type_names m) (port_type_names m) (component_type_names m) case.system x.defined)
    m.definitions

-- the port types are listed under their own names
abbrev pub ArePortsNamed : Sorted → Type 0
ArePortsNamed s = s.port_names ≡ map (λ (p : PortType). p.name) (port_types_in s)

-- the component types are listed under their own names
abbrev pub AreComponentsNamed : Sorted → Type 0
AreComponentsNamed s = s.component_names ≡ map (λ (c : ComponentType). c.name) (component_types_in s)

-- the functions are listed under their own names
abbrev pub AreFunctionsNamed : Sorted → Type 0
AreFunctionsNamed s = s.function_names ≡ map (λ (f : Function). f.name) (functions_in s)
