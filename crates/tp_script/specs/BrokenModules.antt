-- Which rule a module breaks, and at which line: on its declarations, its bodies or its size.
use Rattle.std.specs.Prelude.{◌≡◌, ◌<◌, ℕ, List, [], ◌∷◌, ◌++◌, Some, map}
use Rattle.std.specs.List.{AllZip}
use Rattle.tp_tree.specs.declared.tree.{Module.Module, Definition.Definition, Function.Function, Statement.Statement}
use Rattle.tp_tree.specs.declared.tree.{TestCase.TestCase, Variable.Variable}
use Rattle.tp_value.specs.declared.types.Types.{Types}
use Rattle.tp_config.specs.Setup.{Setup}
use Rattle.tp_checks.specs.declared.fault.{ModuleRule.ModuleRule, ModuleRule.TheVariants.Limit}
use Rattle.tp_checks.specs.{Broken.DeclarationsBreak, Prepared.IsConfigOf, Prepared.IsWellDeclared, Resolved.AreTypes}
use Rattle.tp_checks.specs.Definitions.{BeginsAmong, of_kind, declared, function_of, test_cases}
use Rattle.tp_checks.specs.{Scoping.Visible, BrokenBodies.BodyBreaks}
use Rattle.tp_play.specs.declared.body.Body.{Body}
use Rattle.tp_play.specs.TestCases.{Made}
use Rattle.tp_checks.specs.declared.scope.BehaviourKind.{BehaviourKind}
use Rattle.tp_checks.specs.declared.scope.BehaviourKind.TheVariants as behaviour_kind
use Rattle.tp_script.specs.Scopes.{IsFunctionBody, IsMainBody, IsScope, Known, plays_of}
use Rattle.tp_script.specs.TestCases.{HasSoundBodies, IsTestCaseOf, known_of, size_of_test_case}

-- these variables and statements, whose definition begins at this line, break a rule on bodies in such a scope
pub record BreaksIn (known : Known) (plays : BehaviourKind) (runs_on : List ℕ) (parameters : List (List ℕ)) (begins : ℕ)
    (variables : List Variable) (statements : List Statement) (rule : ModuleRule) (line : ℕ) : Type 0 where
  pub scope : Visible
  pub is_scope : IsScope known plays runs_on parameters scope
  pub breaks : BodyBreaks scope begins variables statements rule line

-- the test case's own body breaks a rule
abbrev pub MainBreaks : Known → TestCase → ℕ → ModuleRule → ℕ → Type 0
MainBreaks known case begins rule line =
    BreaksIn known behaviour_kind.TestCase case.runs_on [] begins case.variables
    case.statements rule line

-- the body of a function breaks a rule
abbrev pub FunctionBreaks : Known → Function → ℕ → ModuleRule → ℕ → Type 0
FunctionBreaks known f begins rule line =
    BreaksIn known (plays_of f) f.runs_on (map (λ p. declared p.name) f.parameters) begins
    f.variables f.statements rule line

-- the body of one of the functions breaks a rule, and those of the functions before it obey the rules
pub record FunctionsBreak (known : Known) (list : List Definition) (rule : ModuleRule) (line : ℕ) : Type 0 where
  pub before : List Definition
  pub definition : Definition
  pub after : List Definition
  pub function : Function
  pub bodies : List Body
  pub split : list ≡ before ++ definition ∷ after
  pub is : function_of definition.defined ≡ Some function
  pub obey : AllZip (IsFunctionBody known) (of_kind function_of before) bodies
  pub breaks : FunctionBreaks known function definition.line rule line

-- a body breaks a rule: the test case's own, which begins at this line, or, if that obeys the rules, the first of the
-- functions' bodies that does
pub data BodiesBreak (known : Known) (case : TestCase) (begins : ℕ) (definitions : List Definition)
    : ModuleRule → ℕ → Type 0 where
  in_main : (rule : ModuleRule) (line : ℕ) → MainBreaks known case begins rule line
      → BodiesBreak known case begins definitions rule line
  in_function : (main : Body) (rule : ModuleRule) (line : ℕ) → IsMainBody known case main
      → FunctionsBreak known definitions rule line → BodiesBreak known case begins definitions rule line

-- the test case of the module, which begins at this line, with its configuration and the module's types
pub record IsCaseOf (m : Module) (case : TestCase) (begins : ℕ) (config : Setup) (types : Types) : Type 0 where
  pub one_test_case : test_cases m ≡ case ∷ []
  pub begins_at : BeginsAmong m.definitions case begins
  pub config_is : IsConfigOf m case config
  pub types_are : AreTypes m types

-- the module breaks a rule of the passes, each of which is made only if those before it found nothing
pub data ModuleBreaks (m : Module) : ModuleRule → ℕ → Type 0 where
  -- a rule on names, definitions, setup or starts
  declarations : (rule : ModuleRule) (line : ℕ) → DeclarationsBreak m rule line → ModuleBreaks m rule line
  -- a rule on bodies
  bodies : (case : TestCase) (begins : ℕ) (config : Setup) (types : Types) (rule : ModuleRule) (line : ℕ)
      → IsWellDeclared m → IsCaseOf m case begins config types
      → BodiesBreak (known_of m case config types) case begins m.definitions rule line → ModuleBreaks m rule line
  -- the rule on size: all components together have more than 100,000 statements to execute (15)
  size : (case : TestCase) (begins : ℕ) (made : Made) → IsWellDeclared m → HasSoundBodies m
      → IsCaseOf m case begins made.config made.types → IsTestCaseOf m made → 100000 < size_of_test_case made
      → ModuleBreaks m Limit begins
