-- What the names of a body stand for.
use Rattle.std.specs.Prelude.{◌≡◌, ℕ, ◌+◌, ◌≤◌, List, length, map, Some, slice_get, string_bytes, ◌++◌}
use Rattle.tp_value.specs.declared.types.{Ty.Ty, Types.Types, Field.Field}
use Rattle.tp_value.specs.declared.types.Ty.TheVariants as ty
use Rattle.tp_value.specs.declared.types.TypeDef.TheVariants as type_def
use Rattle.tp_value.specs.Types.{named, type_number}
use Rattle.tp_config.specs.declared.port_type.{PortType.PortType, CompType.CompType}
use Rattle.tp_tree.specs.declared.message.TypeName.{TypeName}
use Rattle.tp_tree.specs.declared.message.TypeName.TheVariants as type_name
use Rattle.tp_tree.specs.declared.tree.ComponentName.{ComponentName}
use Rattle.tp_tree.specs.declared.tree.ComponentName.TheVariants as component_name
use Rattle.tp_play.specs.declared.body.VariableType.{VariableType}
use Rattle.tp_checks.specs.declared.scope.{BehaviourKind.BehaviourKind, Scope.Scope, Variables.Variables}
use Rattle.tp_checks.specs.declared.scope.BehaviourKind.TheVariants as behaviour_kind
use Rattle.tp_checks.specs.declared.context.Context.{Context}
use Rattle.tp_checks.specs.{Named.IsPlace, Named.IsAbsent, Named.texts, Tables.AreDistinct, Placing.field_names}

-- the ports of a component type, in declared order
pub record Ports : Type 0 where
  pub names : List (List ℕ)
  pub types : List PortType

abbrev pub ports_in : CompType → Ports
ports_in component =
    record { names = map (λ e. string_bytes e.0) component.ports.entries; types = map (λ e. e.1) component.ports.entries }

-- what a body may use; the ports are those of the component type after `runs on`
pub record Visible : Type 0 where
  pub types : Types
  pub component_types : List (List ℕ)
  pub ports : Ports
  pub behaviour : BehaviourKind
  pub parameters : List (List ℕ)
  pub component_variables : List (List ℕ)

abbrev pub visible_in : Scope → Visible
visible_in scope =
    record {
      types = scope.types.now;
      component_types = scope.component_types.now;
      ports = ports_in scope.component_type.now;
      behaviour = scope.behaviour;
      parameters = scope.parameters.now;
      component_variables = scope.component_variables.now;
    }

-- a definition, given what may be used in this context
abbrev pub here : {A : Type 1} → (Visible → Variables → List (List ℕ) → A) → Context → A
here definition context = definition (visible_in context.scope.now) context.variables.now (texts context.turns.now)

-- the same, of what a value or a template stands for, and of the rules that it breaks
abbrev pub stands_here : {A : Type 1} → (Types → List (List ℕ) → A) → Context → A
stands_here definition context = definition context.scope.now.types.now (texts context.turns.now)

abbrev pub breaks_here : {A : Type 1} → (Types → Variables → List (List ℕ) → A) → Context → A
breaks_here definition context = definition context.scope.now.types.now context.variables.now (texts context.turns.now)

-- the port of this name is at this place
pub record IsPortNamed (scope : Visible) (name : List ℕ) (place : ℕ) (port : PortType) : Type 0 where
  pub named : IsPlace scope.ports.names name place
  pub typed : slice_get scope.ports.types place ≡ Some port

-- no parameter has the name of a port
abbrev pub AreNoPorts : Visible → Type 0
AreNoPorts scope =
    (k : ℕ) (name : List ℕ) → slice_get scope.ports.names k ≡ Some name → IsAbsent scope.parameters name

-- the types that a behaviour can send at a port: the system under test sends what its ports receive
abbrev pub sendable_types : BehaviourKind → PortType → List Ty
sendable_types behaviour_kind.TestCase port = port.outs
sendable_types behaviour_kind.Function port = port.outs
sendable_types behaviour_kind.SystemUnderTest port = port.ins

-- the types that it can receive there
abbrev pub receivable_types : BehaviourKind → PortType → List Ty
receivable_types behaviour_kind.TestCase port = port.ins
receivable_types behaviour_kind.Function port = port.ins
receivable_types behaviour_kind.SystemUnderTest port = port.outs

-- the name of a type stands for this type of values
pub data IsType (types : Types) : TypeName → Ty → Type 0 where
  integer : IsType types type_name.Integer ty.Integer
  boolean : IsType types type_name.Boolean ty.Boolean
  charstring : IsType types type_name.Charstring ty.Charstring
  type_named : (n : List ℕ) (k : ℕ) → type_number types n ≡ Some k
      → IsType types (type_name.Named n) (ty.Named k)

-- the variable of this name is at this place, and holds values of this type
pub record IsVariable (variables : Variables) (name : List ℕ) (place : ℕ) (held : VariableType) : Type 0 where
  pub named : IsPlace variables.names name place
  pub typed : slice_get variables.types place ≡ Some held

-- the component of this name is at this place of the references: `mtc` at 0, `self` at 1, and from 2 on the parameters,
-- then the component variables of the test case. A loop variable or a variable hides them, and a parameter hides a
-- component variable
pub data IsReference (scope : Visible) (variables : Variables) (turns : List (List ℕ)) : ComponentName → ℕ → Type 0 where
  mtc : IsReference scope variables turns component_name.Mtc 0
  itself : IsReference scope variables turns component_name.SelfComponent 1
  component_named : (n : List ℕ) (k : ℕ) → IsAbsent turns n
      → IsAbsent variables.names n
      → IsPlace (scope.parameters ++ scope.component_variables) n k
      → IsReference scope variables turns (component_name.Named n) (2 + k)

-- a new name for a variable or a loop variable: no port, parameter, variable or loop variable has it, and in the
-- test case no component variable
pub record IsNew (scope : Visible) (variables : Variables) (turns : List (List ℕ)) (name : List ℕ) : Type 0 where
  pub no_port : IsAbsent scope.ports.names name
  pub no_parameter : IsAbsent scope.parameters name
  pub no_variable : IsAbsent variables.names name
  pub no_turn : IsAbsent turns name
  pub no_component : scope.behaviour ≡ behaviour_kind.TestCase → IsAbsent scope.component_variables name

-- how many components the references of a body name: `mtc`, the component itself, the parameters and the component
-- variables
abbrev pub reference_count : Visible → ℕ
reference_count scope = length scope.parameters + length scope.component_variables + 2

-- no two fields of a record type have the same name
abbrev pub OwnNames : Types → Type 0
OwnNames types = (u : Ty) (fields : List Field) → named types u ≡ Some (type_def.Record fields) → AreDistinct (field_names fields)

-- what the checks of a body assume about its scope: a component type has at most 64 ports
pub record IsSoundScope (scope : Visible) : Type 0 where
  pub few_ports : length scope.ports.names ≤ 64
  pub own_names : OwnNames scope.types

abbrev pub IsSoundHere : Context → Type 0
IsSoundHere context = IsSoundScope (visible_in context.scope.now)

-- each variable has a type
pub record AreTyped (variables : Variables) : Type 0 where
  pub as_many : length variables.types ≡ length variables.names
