-- What the bodies of a module may use.
use Rattle.std.specs.Prelude.{◌≡◌, ◌≤◌, ℕ, List, [], Some, All, Contains, length, map, slice_get, if◌then◌else◌}
use Rattle.std.specs.{List.AllZip, Str.bytes_eq}
use Rattle.tp_tree.specs.declared.tree.{Definition.Definition, Function.Function, Statement.Statement}
use Rattle.tp_tree.specs.declared.tree.{TestCase.TestCase, Variable.Variable}
use Rattle.tp_value.specs.declared.types.Types.{Types}
use Rattle.tp_config.specs.declared.port_type.PortType.{PortType}
use Rattle.tp_config.specs.Setup.{PortDecl}
use Rattle.tp_checks.specs.{Tables.IsNumbered, Tables.place_of_name, Definitions.declared, Definitions.inner_names}
use Rattle.tp_checks.specs.{Rules.AreComponentTypesKnown, Rules.sut, Bodies.IsBody}
use Rattle.tp_checks.specs.Scoping.{OwnNames, Ports, Visible}
use Rattle.tp_play.specs.declared.body.Body.{Body}
use Rattle.tp_checks.specs.declared.scope.BehaviourKind.{BehaviourKind}
use Rattle.tp_checks.specs.declared.scope.BehaviourKind.TheVariants as behaviour_kind

-- what each body of a module may use: the types of messages, the component types by their names, with their ports, and
-- the component variables of the test case
pub record Known : Type 0 where
  pub types : Types
  pub component_types : List (List ℕ)
  pub ports : List (List PortDecl)
  pub components : List (List ℕ)

-- declared ports, as a body sees them
abbrev pub port_of_decl : PortDecl → PortType
port_of_decl d = record { ins = d.ins; outs = d.outs }

abbrev pub visible_ports : List PortDecl → Ports
visible_ports ports = record { names = map (λ d. d.name) ports; types = map port_of_decl ports }

-- what a behaviour may use, given the ports of the component type that it runs on, and the names of its parameters
abbrev pub visible_to : Known → BehaviourKind → List PortDecl → List (List ℕ) → Visible
visible_to known plays ports names =
    record {
      types = known.types;
      component_types = known.component_types;
      ports = visible_ports ports;
      behaviour = plays;
      parameters = names;
      component_variables = known.components;
    }

-- what a behaviour may use that runs on the component type of this name and has parameters of these names
pub record IsScope (known : Known) (plays : BehaviourKind) (runs_on : List ℕ) (names : List (List ℕ)) (scope : Visible)
    : Type 0 where
  -- the ports are those of the component type after `runs on`
  pub kind : ℕ
  pub kind_known : place_of_name known.component_types runs_on ≡ Some kind
  pub ports : List PortDecl
  pub ports_known : slice_get known.ports kind ≡ Some ports
  pub scope_is : scope ≡ visible_to known plays ports names

-- these variables and statements obey the rules on bodies in such a scope, and stand for this body
pub record IsBodyInScope (known : Known) (plays : BehaviourKind) (runs_on : List ℕ) (parameters : List (List ℕ))
    (variables : List Variable) (statements : List Statement) (body : Body) : Type 0 where
  pub scope : Visible
  pub is_scope : IsScope known plays runs_on parameters scope
  pub is_body : IsBody scope variables statements body

-- the test case's own body
abbrev pub IsMainBody : Known → TestCase → Body → Type 0
IsMainBody known case body =
    IsBodyInScope known behaviour_kind.TestCase case.runs_on [] case.variables case.statements
    body

-- a function named `sut` plays the system under test
abbrev pub plays_of : Function → BehaviourKind
plays_of f = if bytes_eq f.name sut then behaviour_kind.SystemUnderTest else behaviour_kind.Function

-- the body of a function
abbrev pub IsFunctionBody : Known → Function → Body → Type 0
IsFunctionBody known f body =
    IsBodyInScope known (plays_of f) f.runs_on (map (λ p. declared p.name) f.parameters)
    f.variables f.statements body

-- the test case's own body and those of the functions stand for something, given what bodies may use
pub record HasBodies (known : Known) (case : TestCase) (functions : List Function) : Type 0 where
  pub main : Body
  pub main_body : IsMainBody known case main
  pub bodies : List Body
  pub function_bodies : AllZip (IsFunctionBody known) functions bodies

-- what the checks of bodies assume: a component type has at most 64 ports
pub record IsSoundKnown (known : Known) : Type 0 where
  pub few_ports : All (λ (ports : List PortDecl). length ports ≤ 64) known.ports
  pub own_names : OwnNames known.types

-- a behaviour may run on the component type of this name
pub record CanRun (known : Known) (name : List ℕ) : Type 0 where
  pub there : Contains known.component_types name
  pub typed : length known.component_types ≡ length known.ports

-- the component types that these definitions name are known
pub record CanAllRun (known : Known) (definitions : List Definition) : Type 0 where
  pub there : All (λ (x : Definition). AreComponentTypesKnown known.component_types x.defined) definitions
  pub typed : length known.component_types ≡ length known.ports

-- within each definition the names of its fields, ports or parameters are distinct, and fewer than 2 ^ 32
abbrev pub HaveOwnNames : List Definition → Type 0
HaveOwnNames definitions = All (λ (x : Definition). IsNumbered (inner_names x.defined)) definitions
