-- Which rule the names, definitions, setup and starts of a module break, and at which line.
use Rattle.std.specs.Prelude.{◌≡◌, ℕ, List, [], ◌∷◌, map}
use Rattle.tp_tree.specs.declared.tree.{Module.Module, ComponentType.ComponentType, Function.Function}
use Rattle.tp_tree.specs.declared.tree.TestCase.{TestCase}
use Rattle.tp_config.specs.declared.port_type.CompType.{CompType}
use Rattle.tp_config.specs.{Setup.PortDecl, Setup.Setup, Shape.ports_of}
use Rattle.tp_checks.specs.declared.fault.ModuleRule.{ModuleRule}
use Rattle.tp_checks.specs.Definitions.{BeginsAmong, component_type_names, component_types, functions, test_cases}
use Rattle.tp_checks.specs.{Rules.HasUniqueNames, Sorted.HasSoundDefinitions, Resolved.AreComponentTypes}
use Rattle.tp_checks.specs.{Configuring.AreSoundVariables, Configuring.IsConfigBySetup, BrokenNames.NamesBreak}
use Rattle.tp_checks.specs.{BrokenDefinitions.DefinitionsOfBreak, BrokenSetup.CaseSetupBreaks, BrokenStarts.StartsBreak}

-- the module obeys the rules on names and definitions, and this is its test case, which begins at this line
pub record IsDefinedWell (m : Module) (case : TestCase) (line : ℕ) : Type 0 where
  pub one_test_case : test_cases m ≡ case ∷ []
  pub names : HasUniqueNames m
  pub definitions : HasSoundDefinitions m case
  pub begins : BeginsAmong m.definitions case line

-- the third pass finds that this rule is broken at this line, given the component types with their names and ports
pub data ThirdPassBreaks (names : List (List ℕ)) (types : List ComponentType) (made : List (List PortDecl))
    (functions : List Function) (case : TestCase) (begins : ℕ) : ModuleRule → ℕ → Type 0 where
  -- a rule on setup
  on_setup : (rule : ModuleRule) (line : ℕ) → CaseSetupBreaks names types made case begins rule line
      → ThirdPassBreaks names types made functions case begins rule line
  -- if setup obeys the rules, a rule on starts
  on_starts : (config : Setup) (rule : ModuleRule) (line : ℕ) → AreSoundVariables names types case
      → IsConfigBySetup names made case config → StartsBreak functions case begins rule line
      → ThirdPassBreaks names types made functions case begins rule line

-- the same, for the component types of the module
pub record ThirdPassOfBreaks (m : Module) (case : TestCase) (begins : ℕ) (rule : ModuleRule) (line : ℕ) : Type 0 where
  pub types : List CompType
  pub types_are : AreComponentTypes m types
  pub breaks : ThirdPassBreaks (component_type_names m) (component_types m) (map ports_of types) (functions m) case
      begins rule line

-- the module breaks a rule of the first three passes, each of which is made only if those before it found nothing
pub data DeclarationsBreak (m : Module) : ModuleRule → ℕ → Type 0 where
  -- a rule on names
  names : (rule : ModuleRule) (line : ℕ) → NamesBreak m rule line → DeclarationsBreak m rule line
  -- a rule on definitions
  definitions : (case : TestCase) (rule : ModuleRule) (line : ℕ) → HasUniqueNames m → test_cases m ≡ case ∷ []
      → DefinitionsOfBreak m case rule line → DeclarationsBreak m rule line
  -- a rule on setup or starts
  third_pass : (case : TestCase) (begins : ℕ) (rule : ModuleRule) (line : ℕ) → IsDefinedWell m case begins
      → ThirdPassOfBreaks m case begins rule line → DeclarationsBreak m rule line
