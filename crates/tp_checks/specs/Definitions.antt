-- The definitions of a module, as lists in the order of the text (ES 201 873-1, 8).
use Rattle.std.specs.Prelude.{◌≡◌, ℕ, Option, Some, None, List, [], Contains, map}
use Rattle.std.specs.List.{filter_map, flat_map}
use Rattle.tp_tree.specs.declared.tree.{Module.Module, Definition.Definition, Defined.Defined, PortType.PortType}
use Rattle.tp_tree.specs.declared.tree.{ComponentType.ComponentType, Function.Function, TestCase.TestCase}
use Rattle.tp_tree.specs.declared.tree.{DeclaredName.DeclaredName, PortDeclaration.PortDeclaration}
use Rattle.tp_tree.specs.declared.tree.Defined.TheVariants as defined

-- the name of a definition
abbrev pub name_of : Defined → List ℕ
name_of (defined.Record r) = r.name
name_of (defined.List l) = l.name
name_of (defined.Port p) = p.name
name_of (defined.Component c) = c.name
name_of (defined.Function f) = f.name
name_of (defined.TestCase c) = c.name

-- the definitions of one kind, in the order of the text
abbrev pub of_kind : {T : Type 0} → (Defined → Option T) → List Definition → List T
of_kind kind definitions = filter_map (λ (x : Definition). kind x.defined) definitions

-- a record or a record of
abbrev pub type_of : Defined → Option Defined
type_of (defined.Record r) = Some (defined.Record r)
type_of (defined.List l) = Some (defined.List l)
type_of (defined.Port p) = None
type_of (defined.Component c) = None
type_of (defined.Function f) = None
type_of (defined.TestCase c) = None

abbrev pub port_type_of : Defined → Option PortType
port_type_of (defined.Record r) = None
port_type_of (defined.List l) = None
port_type_of (defined.Port p) = Some p
port_type_of (defined.Component c) = None
port_type_of (defined.Function f) = None
port_type_of (defined.TestCase c) = None

abbrev pub component_type_of : Defined → Option ComponentType
component_type_of (defined.Record r) = None
component_type_of (defined.List l) = None
component_type_of (defined.Port p) = None
component_type_of (defined.Component c) = Some c
component_type_of (defined.Function f) = None
component_type_of (defined.TestCase c) = None

abbrev pub function_of : Defined → Option Function
function_of (defined.Record r) = None
function_of (defined.List l) = None
function_of (defined.Port p) = None
function_of (defined.Component c) = None
function_of (defined.Function f) = Some f
function_of (defined.TestCase c) = None

abbrev pub case_of : Defined → Option TestCase
case_of (defined.Record r) = None
case_of (defined.List l) = None
case_of (defined.Port p) = None
case_of (defined.Component c) = None
case_of (defined.Function f) = None
case_of (defined.TestCase c) = Some c

-- the test case is one of these definitions, and begins at this line
pub record BeginsAmong (definitions : List Definition) (case : TestCase) (line : ℕ) : Type 0 where
  pub definition : Definition
  pub there : Contains definitions definition
  pub is : case_of definition.defined ≡ Some case
  pub line_is : line ≡ definition.line

abbrev pub type_definitions : Module → List Defined
type_definitions m = of_kind type_of m.definitions

abbrev pub port_types : Module → List PortType
port_types m = of_kind port_type_of m.definitions

abbrev pub component_types : Module → List ComponentType
component_types m = of_kind component_type_of m.definitions

abbrev pub functions : Module → List Function
functions m = of_kind function_of m.definitions

abbrev pub test_cases : Module → List TestCase
test_cases m = of_kind case_of m.definitions

-- the names of the definitions, and of those of each kind
abbrev pub definition_names : Module → List (List ℕ)
definition_names m = map (λ (x : Definition). name_of x.defined) m.definitions

abbrev pub type_names : Module → List (List ℕ)
type_names m = map name_of (type_definitions m)

abbrev pub port_type_names : Module → List (List ℕ)
port_type_names m = map (λ (p : PortType). p.name) (port_types m)

abbrev pub component_type_names : Module → List (List ℕ)
component_type_names m = map (λ (c : ComponentType). c.name) (component_types m)

-- a declared name, without its line
abbrev pub declared : DeclaredName → List ℕ
declared n = n.name

-- the names of the ports that the declarations declare
abbrev pub declared_ports : List PortDeclaration → List (List ℕ)
declared_ports ports = flat_map (λ (p : PortDeclaration). map declared p.names) ports

-- the names of the fields, ports or parameters that a definition declares
abbrev pub inner_names : Defined → List (List ℕ)
inner_names (defined.Record r) = map (λ f. declared f.name) r.fields
inner_names (defined.List l) = []
inner_names (defined.Port p) = []
inner_names (defined.Component c) = declared_ports c.ports
inner_names (defined.Function f) = map (λ p. declared p.name) f.parameters
inner_names (defined.TestCase c) = []
