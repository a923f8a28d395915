-- The test case of a module.
use Rattle.std.specs.Prelude.{◌≡◌, ◌≤◌, ℕ, Option, Some, List, [], ◌∷◌, length, map, slice_get, sum}
use Rattle.std.specs.List.{AllZip}
use Rattle.tp_tree.specs.declared.tree.{Module.Module, TestCase.TestCase}
use Rattle.tp_value.specs.declared.types.Types.{Types}
use Rattle.tp_config.specs.declared.port_type.CompType.{CompType}
use Rattle.tp_config.specs.{Setup.Setup, Setup.PortDecl, Shape.ports_of}
use Rattle.tp_checks.specs.declared.starts.Starts.{Starts}
use Rattle.tp_checks.specs.Definitions.{component_type_names, functions, test_cases}
use Rattle.tp_checks.specs.{Resolved.AreTypes, Resolved.AreComponentTypes, Components.variables, Starting.AreStarts}
use Rattle.tp_checks.specs.Prepared.{IsConfigOf, IsWellDeclared}
use Rattle.tp_play.specs.declared.body.Body.{Body}
use Rattle.tp_script.specs.{Scopes.Known, Scopes.IsMainBody, Scopes.IsFunctionBody, Behaviours.Does}
use Rattle.tp_play.specs.{Behaviours.Behaviour, Behaviours.size_of_behaviour, TestCases.Made}

-- what the bodies of a module with this test case may use
abbrev pub known_of : Module → TestCase → Setup → Types → Known
known_of m case config types =
    record {
      types = types;
      component_types = component_type_names m;
      ports = config.types;
      components = variables case.setups;
    }

-- the ports of the component types of the module
pub record AreKinds (m : Module) (kinds : List (List PortDecl)) : Type 0 where
  pub types : List CompType
  pub of_module : AreComponentTypes m types
  pub kinds_are : kinds ≡ map ports_of types

-- this is the test case of the module
pub record IsTestCaseOf (m : Module) (made : Made) : Type 0 where
  pub case : TestCase
  -- the module has this test case, and no other
  pub one_test_case : test_cases m ≡ case ∷ []
  -- the record and record-of types under their own names, and nothing else
  pub types : AreTypes m made.types
  -- the components in their order, with their declared ports, and only the connections and mappings of the setup
  -- statements
  pub kinds : AreKinds m made.config.types
  pub config : IsConfigOf m case made.config
  -- each component has its own behaviour, with the arguments of its start
  pub starts : Starts
  pub starts_are : AreStarts (functions m) case starts
  pub everyone : length made.behaviours ≡ length made.config.components
  pub does : (k : ℕ) (behaviour : Option Behaviour) → slice_get made.behaviours k ≡ Some behaviour
      → Does (known_of m case made.config made.types) (functions m) case starts k behaviour

-- the module obeys the rules on bodies: the test case's own and each function's, started or not, stands for something
pub record HasSoundBodies (m : Module) : Type 0 where
  pub case : TestCase
  pub one_test_case : test_cases m ≡ case ∷ []
  pub types : Types
  pub types_are : AreTypes m types
  pub config : Setup
  pub kinds : AreKinds m config.types
  pub main : Body
  pub main_body : IsMainBody (known_of m case config types) case main
  pub bodies : List Body
  pub function_bodies : AllZip (IsFunctionBody (known_of m case config types)) (functions m) bodies

-- the number of statements that all components together have to execute
abbrev pub size_of_test_case : Made → ℕ
size_of_test_case made = sum (map size_of_behaviour made.behaviours)

-- all components together have at most 100,000 statements to execute
pub record IsSmall (m : Module) : Type 0 where
  pub made : Made
  pub test_case : IsTestCaseOf m made
  pub few : size_of_test_case made ≤ 100000

-- the module obeys the rules
pub record WellFormed (m : Module) : Type 0 where
  -- on names, definitions, setup and starts
  pub declared : IsWellDeclared m
  -- on bodies
  pub bodies : HasSoundBodies m
  -- on size
  pub small : IsSmall m
