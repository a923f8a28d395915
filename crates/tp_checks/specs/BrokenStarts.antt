-- Which rule on the starts of the components a test case breaks, and at which line (ES 201 873-1, 21.3.2).
use Rattle.std.specs.Prelude.{◌≡◌, ◌≢◌, ◌≤◌, ◌+◌, ℕ, Some, None, List, [], ◌∷◌, ◌++◌, All, Contains}
use Rattle.std.specs.{Prelude.length, Prelude.map, Prelude.slice_get, Prelude.take, List.AllZip}
use Rattle.tp_tree.specs.declared.tree.{ComponentName.ComponentName, ComponentStart.ComponentStart, Creation.Creation}
use Rattle.tp_tree.specs.declared.tree.{Function.Function, Parameter.Parameter, SetupStatement.SetupStatement}
use Rattle.tp_tree.specs.declared.tree.TestCase.{TestCase}
use Rattle.tp_config.specs.declared.port_type.CompId.{CompId}
use Rattle.tp_checks.specs.declared.fault.{ModuleRule.ModuleRule, ModuleRule.TheVariants.NotStarted}
use Rattle.tp_checks.specs.declared.fault.ModuleRule.TheVariants.{Unknown, WrongType, Limit, NotInSut, NoDone}
use Rattle.tp_checks.specs.{Tables.IsNumbered, Tables.place_of_name, Rules.sut, Starting.type_names_of}
use Rattle.tp_checks.specs.Components.{creation_of, creations, variable_name, variables}
use Rattle.tp_checks.specs.Starting.{HasParameterType, IsArgument, IsStartOf, component_named, started_names}
use Rattle.tp_checks.specs.declared.starts.StartedComponent.{StartedComponent}

-- an argument breaks this rule, given its parameter, the names of the component variables, and the names of the
-- components' types
pub data ArgumentBreaks (names types : List (List ℕ)) (p : Parameter) (x : ComponentName) : ModuleRule → Type 0 where
  -- it names no component (11)
  unknown_argument : component_named names x ≡ None → ArgumentBreaks names types p x Unknown
  -- it names a component of another type than the parameter's (13)
  other_argument : (k : ℕ) → component_named names x ≡ Some k → slice_get types k ≢ Some p.type_name
      → ArgumentBreaks names types p x WrongType

-- the arguments of a start break this rule
pub data ArgumentsBreak (names types : List (List ℕ)) (parameters : List Parameter) (arguments : List ComponentName)
    : ModuleRule → Type 0 where
  -- there are more or fewer of them than parameters (13)
  count : length arguments ≢ length parameters → ArgumentsBreak names types parameters arguments WrongType
  -- there are as many, and one of them breaks the rule; those before it obey the rules
  one_argument : (i : ℕ) (p : Parameter) (x : ComponentName) (made : List CompId) (rule : ModuleRule)
      → length arguments ≡ length parameters → slice_get parameters i ≡ Some p → slice_get arguments i ≡ Some x
      → AllZip (IsArgument names) (take i arguments) made → AllZip (HasParameterType types) (take i parameters) made
      → ArgumentBreaks names types p x rule → ArgumentsBreak names types parameters arguments rule

-- this is the function of a start, and one of these functions
pub record IsStartFunction (functions : List Function) (x : ComponentStart) (f : Function) : Type 0 where
  pub there : Contains functions f
  pub named : f.name ≡ x.function

-- a start breaks this rule, given the functions, the names of the component variables, the names of the components'
-- types, and the names of the components that were started before it
pub data StartBreaks (functions : List Function) (names types started : List (List ℕ)) (x : ComponentStart)
    : ModuleRule → Type 0 where
  -- its component variable is unknown (11)
  unknown_variable : (Contains names x.component → ⊥)
      → StartBreaks functions names types started x Unknown
  -- its component variable is known, and the component was started before (18)
  started_twice : Contains names x.component → Contains started x.component
      → StartBreaks functions names types started x NotStarted
  -- its component wasn't started before, and 4,294,967,295 others were (15)
  many_starts : Contains names x.component → (Contains started x.component → ⊥)
      → 4294967295 ≤ length started → StartBreaks functions names types started x Limit
  -- its component wasn't started before, and its function is unknown (11)
  unknown_function : Contains names x.component → (Contains started x.component → ⊥)
      → (Contains (map (λ (f : Function). f.name) functions) x.function → ⊥)
      → StartBreaks functions names types started x Unknown
  -- its function is known, and plays the system under test (16)
  starts_sut : (f : Function) → Contains names x.component
      → (Contains started x.component → ⊥) → IsStartFunction functions x f
      → x.function ≡ sut
      → StartBreaks functions names types started x NotInSut
  -- its function doesn't, and runs on another type than the component's (13)
  other_type : (f : Function) (k : ℕ) → place_of_name names x.component ≡ Some k
      → (Contains started x.component → ⊥) → IsStartFunction functions x f
      → x.function ≢ sut
      → slice_get types (k + 1) ≢ Some f.runs_on → StartBreaks functions names types started x WrongType
  -- its function runs on the component's type, and its arguments break a rule (11, 13)
  other_arguments : (f : Function) (k : ℕ) (rule : ModuleRule) → place_of_name names x.component ≡ Some k
      → (Contains started x.component → ⊥) → IsStartFunction functions x f
      → x.function ≢ sut
      → slice_get types (k + 1) ≡ Some f.runs_on
      → ArgumentsBreak names types f.parameters x.arguments rule
      → StartBreaks functions names types started x rule

-- these starts obey the rules, given the functions, the names of the component variables, and the names of the
-- components' types
pub record AreStarted (functions : List Function) (names types : List (List ℕ)) (starts : List ComponentStart)
    : Type 0 where
  pub made : List StartedComponent
  pub each : AllZip (IsStartOf functions names types) starts made
  pub once : IsNumbered (started_names starts)

-- one of the starts, at this line, breaks this rule, and those before it obey the rules
pub record StartBreaksAmong (functions : List Function) (names types : List (List ℕ)) (starts : List ComponentStart)
    (rule : ModuleRule) (line : ℕ) : Type 0 where
  pub before : List ComponentStart
  pub start : ComponentStart
  pub after : List ComponentStart
  pub split : starts ≡ before ++ start ∷ after
  pub obey : AreStarted functions names types before
  pub breaks : StartBreaks functions names types (started_names before) start rule
  pub line_is : line ≡ start.line

-- the component whose `var` is at this line is never started, and those before it are, given the names of the started
-- components
pub record IsNeverStarted (started : List (List ℕ)) (setups : List SetupStatement) (line : ℕ) : Type 0 where
  pub before : List SetupStatement
  pub statement : SetupStatement
  pub after : List SetupStatement
  pub creation : Creation
  pub split : setups ≡ before ++ statement ∷ after
  pub makes : creation_of statement ≡ Some creation
  pub others : All (Contains started) (variables before)
  pub never : Contains started (variable_name creation) → ⊥
  pub line_is : line ≡ statement.line

-- the test case breaks a rule after its last start, given the names of the started components and the line at which the
-- test case begins
pub data AfterStartsBreaks (started : List (List ℕ)) (case : TestCase) (begins : ℕ) : ModuleRule → ℕ → Type 0 where
  -- a component is never started (18)
  never_started : (line : ℕ) → IsNeverStarted started case.setups line
      → AfterStartsBreaks started case begins NotStarted line
  -- components are created, each is started, and `all component.done` is missing (17)
  no_done : All (Contains started) (variables case.setups) → creations case.setups ≢ []
      → case.all_done ≡ None → AfterStartsBreaks started case begins NoDone begins

-- the test case breaks a rule on starts, given the functions and the line at which the test case begins
pub data StartsBreak (functions : List Function) (case : TestCase) (begins : ℕ) : ModuleRule → ℕ → Type 0 where
  -- a start breaks a rule
  a_start : (rule : ModuleRule) (line : ℕ)
      → StartBreaksAmong functions (variables case.setups) (type_names_of case) case.starts rule line
      → StartsBreak functions case begins rule line
  -- the starts obey the rules, and the test case breaks a rule after them
  after_starts : (rule : ModuleRule) (line : ℕ)
      → AreStarted functions (variables case.setups) (type_names_of case) case.starts
      → AfterStartsBreaks (started_names case.starts) case begins rule line
      → StartsBreak functions case begins rule line
