-- What the first three passes of the checks require of a module, and what they make of it.
use Rattle.std.specs.Prelude.{◌≡◌, ◌≤◌, List, [], ◌∷◌, All, length, map}
use Rattle.tp_tree.specs.declared.tree.{Module.Module, TestCase.TestCase}
use Rattle.tp_config.specs.declared.port_type.CompType.{CompType}
use Rattle.tp_config.specs.{Setup.Setup, Shape.ports_of}
use Rattle.tp_checks.specs.declared.starts.Starts.{Starts}
use Rattle.tp_checks.specs.declared.prepared.Prepared.{Prepared}
use Rattle.tp_checks.specs.Definitions.{BeginsAmong, component_type_names, component_types, functions, test_cases}
use Rattle.tp_checks.specs.{Rules.HasUniqueNames, Sorted.AreSorted, Sorted.HasSoundDefinitions, Components.variables}
use Rattle.tp_checks.specs.{Resolved.AreTypes, Resolved.AreComponentTypes, Starting.AreStarts}
use Rattle.tp_checks.specs.Configuring.{AreSoundVariables, IsConfigBySetup}

-- the configuration is that of the test case, over the component types of the module
pub record IsConfigOf (m : Module) (case : TestCase) (config : Setup) : Type 0 where
  pub types : List CompType
  pub types_are : AreComponentTypes m types
  pub few_ports : All (λ t. length t.ports.entries ≤ 64) types
  pub set_up : IsConfigBySetup (component_type_names m) (map ports_of types) case config

-- the result of the first three passes for a module
pub record IsPreparedOf (m : Module) (p : Prepared) : Type 0 where
  -- the module has this test case, and no other
  pub one_test_case : test_cases m ≡ p.case.case.now ∷ []
  -- it begins at this line
  pub begins : BeginsAmong m.definitions p.case.case.now p.case.line
  pub sorted : AreSorted m p.sorted
  -- the record and record-of types, and nothing else
  pub types : AreTypes m p.types
  -- the components as declared, with the connections and mappings of the setup statements alone
  pub config : IsConfigOf m p.case.case.now p.config
  pub variables_are : p.variables ≡ variables p.case.case.now.setups
  pub starts : AreStarts (functions m) p.case.case.now p.starts

-- the module obeys the rules on names, definitions, setup and starts
pub record IsWellDeclared (m : Module) : Type 0 where
  pub case : TestCase
  -- there is one test case
  pub one_test_case : test_cases m ≡ case ∷ []
  -- no name is given twice
  pub names : HasUniqueNames m
  -- what a definition names is defined, a component type has at most 64 ports, and `sut` plays the system
  pub definitions : HasSoundDefinitions m case
  -- the component variables have names of their own and known types, and there aren't too many
  pub variables : AreSoundVariables (component_type_names m) (component_types m) case
  -- no two components have the same name, the ports of each `connect` and `map` are known, and each is allowed after
  -- the statements before it
  pub config : Setup
  pub connections : IsConfigOf m case config
  -- each component is started once, by a function of its type, with arguments of the parameters' types; if a component
  -- is created, `all component.done` is there
  pub started : Starts
  pub starts : AreStarts (functions m) case started
