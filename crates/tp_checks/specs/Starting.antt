-- The starts of the components (ES 201 873-1, 21.3.2).
use Rattle.std.specs.Prelude.{◌≡◌, ◌≢◌, ◌<◌, ◌+◌, ℕ, Option, Some, List, ◌∷◌, IsSome, length, map, slice_get}
use Rattle.std.specs.{Option.option_map, List.AllZip}
use Rattle.tp_tree.specs.declared.tree.{ComponentName.ComponentName, ComponentStart.ComponentStart, Function.Function}
use Rattle.tp_tree.specs.declared.tree.{Parameter.Parameter, Creation.Creation, TestCase.TestCase}
use Rattle.tp_tree.specs.declared.tree.ComponentName.TheVariants as component_name
use Rattle.tp_config.specs.declared.port_type.CompId.{CompId}
use Rattle.tp_checks.specs.declared.starts.{StartedComponent.StartedComponent, Starts.Starts}
use Rattle.tp_checks.specs.{Tables.IsNumbered, Tables.place_of_name, Rules.sut}
use Rattle.tp_checks.specs.Components.{creations, variables}

-- the number of the component that an argument names, given the names of the component variables; `self` is `mtc`
abbrev pub component_named : List (List ℕ) → ComponentName → Option ℕ
component_named names (component_name.Named x) = option_map (λ k. k + 1) (place_of_name names x)
component_named names component_name.Mtc = Some 0
component_named names component_name.SelfComponent = Some 0

-- the argument names this component
abbrev pub IsArgument : List (List ℕ) → ComponentName → CompId → Type 0
IsArgument names x comp = component_named names x ≡ Some comp.0

-- the component has the type of the parameter, given the names of the components' types
abbrev pub HasParameterType : List (List ℕ) → Parameter → CompId → Type 0
HasParameterType types p comp = slice_get types comp.0 ≡ Some p.type_name

-- the names of the types of `mtc` and of the created components, in their order
abbrev pub type_names_of : TestCase → List (List ℕ)
type_names_of case =
    case.runs_on ∷ map (λ (c : Creation). c.type_name) (creations case.setups)

-- a start obeys its rules and starts this component, given the functions, the names of the component variables, and the
-- names of the components' types
pub record IsStartOf (functions : List Function) (names types : List (List ℕ)) (x : ComponentStart) (made : StartedComponent)
    : Type 0 where
  pub variable : ℕ
  pub variable_known : place_of_name names x.component ≡ Some variable
  pub function : Function
  pub function_known : slice_get functions made.function ≡ Some function
  pub named : function.name ≡ x.function
  pub not_sut : x.function ≢ sut
  -- the function runs on the component's type
  pub runs_on : slice_get types (variable + 1) ≡ Some function.runs_on
  -- each argument is known and of its parameter's type, and there are as many
  pub arguments_known : AllZip (IsArgument names) x.arguments made.arguments.items
  pub arguments_fit : AllZip (HasParameterType types) function.parameters made.arguments.items

-- the names of the started components
abbrev pub started_names : List ComponentStart → List (List ℕ)
started_names xs = map (λ (x : ComponentStart). x.component) xs

-- the place of a component variable's start
abbrev pub IsStartPlace : List (List ℕ) → List ℕ → ℕ → Type 0
IsStartPlace started name k = place_of_name started name ≡ Some k

-- the starts of a test case obey their rules, and start these components
pub record AreStarts (functions : List Function) (case : TestCase) (made : Starts) : Type 0 where
  pub starts : AllZip (IsStartOf functions (variables case.setups) (type_names_of case))
      case.starts made.starts.items
  -- no component is started twice, and the starts are fewer than 2 ^ 32
  pub once : IsNumbered (started_names case.starts)
  -- each component is started
  pub all : AllZip (IsStartPlace (started_names case.starts)) (variables case.setups) made.places.items
  -- a test case that creates components ends with `all component.done`
  pub done : 0 < length (creations case.setups) → IsSome case.all_done
