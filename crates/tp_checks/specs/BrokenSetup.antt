-- Which rule on setup a test case breaks, and at which line (ES 201 873-1, 9.1 and 21.1).
use Rattle.std.specs.Prelude.{◌≡◌, ◌≢◌, ◌≤◌, ◌+◌, ℕ, Option, Some, IsSome, List, [], ◌∷◌, ◌++◌}
use Rattle.std.specs.{Prelude.Contains, Prelude.codes, Prelude.length, Prelude.map, Option.option_map, List.AllZip}
use Rattle.tp_tree.specs.declared.tree.{ComponentType.ComponentType, Creation.Creation, PairEnd.PairEnd}
use Rattle.tp_tree.specs.declared.tree.{SetupAction.SetupAction, SetupStatement.SetupStatement, TestCase.TestCase}
use Rattle.tp_tree.specs.declared.tree.SetupAction.TheVariants as setup_action
use Rattle.tp_config.specs.declared.port_type.PortRef.{PortRef}
use Rattle.tp_config.specs.declared.connecting.ConnectFault.{ConnectFault}
use Rattle.tp_config.specs.declared.mapping.MapFault.{MapFault}
use Rattle.tp_config.specs.{Setup.Setup, Setup.PortDecl, Causes.ConnectRefused, Causes.MapRefused}
use Rattle.tp_config.specs.Faults.{connect_refusal, map_refusal}
use Rattle.tp_checks.specs.declared.fault.ModuleRule.{ModuleRule}
use Rattle.tp_checks.specs.declared.fault.ModuleRule.TheVariants.{Unknown, Duplicate, WrongType, Limit}
use Rattle.tp_checks.specs.{Told.rule_refusal, Configuring.IsPortOfEnd, Configuring.Makes, Configuring.most_variables}
use Rattle.tp_checks.specs.Components.{HasPorts, HasSoundVariables, IsMember, IsSoundVariable, created, creation_of}
use Rattle.tp_checks.specs.Components.{creations, interface, main_component, variable_name, variables}

-- the `var` of a component breaks this rule, given the names of the component types, of the main component's ports, of
-- other components and of the variables before it, and the greatest number of variables
pub data CreationBreaks (types ports others names : List (List ℕ)) (most : ℕ) (c : Creation) : ModuleRule → Type 0 where
  -- a variable before it has its name (12)
  taken : Contains names (variable_name c) → CreationBreaks types ports others names most c Duplicate
  -- a port has its name (12)
  port : Contains ports (variable_name c) → CreationBreaks types ports others names most c Duplicate
  -- its name is new, and its type is unknown (11)
  unknown_type : (Contains names (variable_name c) → ⊥) → (Contains ports (variable_name c) → ⊥)
      → (Contains types c.type_name → ⊥) → CreationBreaks types ports others names most c Unknown
  -- its type is known, and its two types differ (13)
  other_type : (Contains names (variable_name c) → ⊥) → (Contains ports (variable_name c) → ⊥)
      → Contains types c.type_name → c.type_name ≢ c.created
      → CreationBreaks types ports others names most c WrongType
  -- the types are the same, and there are too many components (15)
  many : (Contains names (variable_name c) → ⊥) → (Contains ports (variable_name c) → ⊥)
      → Contains types c.type_name → c.type_name ≡ c.created
      → most ≤ length names → CreationBreaks types ports others names most c Limit
  -- the variable obeys the rules, and another component has its name (12)
  component : IsSoundVariable types ports names most c → Contains others (variable_name c)
      → CreationBreaks types ports others names most c Duplicate

-- an end of a `connect` or a `map` names a component that exists, and a port of it
abbrev pub IsEndKnown : Setup → List (List ℕ) → Option ℕ → PairEnd → Type 0
IsEndKnown s names system x = (p : PortRef) × IsPortOfEnd s names system x p

-- an end of a `connect` or a `map` is unknown (11), given the names of the component variables before it and the number
-- of the test system interface
pub data EndsBreak (s : Setup) (names : List (List ℕ)) (system : Option ℕ) (x y : PairEnd) : ModuleRule → Type 0 where
  first_end : ¬ IsEndKnown s names system x → EndsBreak s names system x y Unknown
  second_end : ¬ IsEndKnown s names system y → EndsBreak s names system x y Unknown

-- a `connect` breaks this rule
pub data ConnectBreaks (s : Setup) (names : List (List ℕ)) (system : Option ℕ) (x y : PairEnd)
    : ModuleRule → Type 0 where
  connect_ends : (rule : ModuleRule) → EndsBreak s names system x y rule → ConnectBreaks s names system x y rule
  -- both ends are known, and this is the first cause to refuse it (20, 21, 22, 25, 26, 27)
  connect_refused : (p q : PortRef) (fault : ConnectFault) (rule : ModuleRule) → IsPortOfEnd s names system x p
      → IsPortOfEnd s names system y q → ConnectRefused s p q fault → rule_refusal rule ≡ connect_refusal fault
      → ConnectBreaks s names system x y rule

-- a `map` breaks this rule
pub data MapBreaks (s : Setup) (names : List (List ℕ)) (system : Option ℕ) (x y : PairEnd) : ModuleRule → Type 0 where
  map_ends : (rule : ModuleRule) → EndsBreak s names system x y rule → MapBreaks s names system x y rule
  -- both ends are known, and this is the first cause to refuse it (22, 23, 24, 28)
  map_refused : (p q : PortRef) (fault : MapFault) (rule : ModuleRule) → IsPortOfEnd s names system x p
      → IsPortOfEnd s names system y q → MapRefused s p q fault → rule_refusal rule ≡ map_refusal fault
      → MapBreaks s names system x y rule

-- a setup statement that creates no component breaks this rule
abbrev pub PairBreaks : Setup → List (List ℕ) → Option ℕ → SetupAction → ModuleRule → Type 0
PairBreaks s names system (setup_action.Create c) rule = ⊥
PairBreaks s names system (setup_action.Connect x y) rule = ConnectBreaks s names system x y rule
PairBreaks s names system (setup_action.Map x y) rule = MapBreaks s names system x y rule

-- one of the setup statements, at this line, breaks this rule in the configuration that those before it make of this
-- one
pub record PairsBreak (system : Option ℕ) (start : Setup) (list : List SetupStatement) (rule : ModuleRule) (line : ℕ)
    : Type 0 where
  pub before : List SetupStatement
  pub statement : SetupStatement
  pub after : List SetupStatement
  pub config : Setup
  pub split : list ≡ before ++ statement ∷ after
  pub makes : Makes system start before config
  pub breaks : PairBreaks config (variables before) system statement.action rule
  pub line_is : line ≡ statement.line

-- the number of the test system interface, which comes after `mtc` and the components of these statements
abbrev pub interface_behind : TestCase → List SetupStatement → Option ℕ
interface_behind case made = option_map (λ _. length (creations made) + 1) case.system

-- a configuration that has `mtc`, the components of these statements and the test system interface, and nothing else
pub record StartsWith (names : List (List ℕ)) (types : List (List PortDecl)) (case : TestCase)
    (made : List SetupStatement) (s : Setup) : Type 0 where
  pub types_are : s.types ≡ types
  pub components_are : AllZip (IsMember names)
      ((main_component case ∷ map created (creations made)) ++ interface case) s.components
  pub not_connected : s.connected ≡ []
  pub not_mapped : s.mapped ≡ []

-- the statements `before`, one after the other, make this configuration of one that has the components of the
-- statements `made`, whose variables obey the rules
pub record CarriesOut (names ports : List (List ℕ)) (types : List (List PortDecl)) (case : TestCase)
    (made before : List SetupStatement) (config : Setup) : Type 0 where
  pub sound : HasSoundVariables names ports (most_variables case) (creations made)
  pub start : Setup
  pub starts_with : StartsWith names types case made start
  pub makes : Makes (interface_behind case made) start before config

-- the test case breaks a rule on setup, given the names and the ports of the component types, the names of the main
-- component's ports, and the line at which the test case begins
pub data SetupBreaks (names ports : List (List ℕ)) (types : List (List PortDecl)) (case : TestCase) (begins : ℕ)
    : ModuleRule → ℕ → Type 0 where
  -- a component has the name of the test system interface (12)
  interface_taken : IsSome case.system → Contains (variables case.setups) (codes "system")
      → SetupBreaks names ports types case begins Duplicate begins
  -- a `var` breaks a rule, and the statements before it obey the rules
  a_var : (before : List SetupStatement) (x : SetupStatement) (after : List SetupStatement) (c : Creation)
      (config : Setup) (rule : ModuleRule) → case.setups ≡ before ++ x ∷ after → creation_of x ≡ Some c
      → CarriesOut names ports types case before before config
      → CreationBreaks names ports (codes "mtc" ∷ []) (variables before) (most_variables case) c rule
      → SetupBreaks names ports types case begins rule x.line
  -- a `connect` or a `map` breaks a rule, and the statements before it obey the rules; the components of further
  -- statements, whose variables obey the rules, exist too
  a_pair : (made after before : List SetupStatement) (x : SetupStatement) (more : List SetupStatement) (config : Setup)
      (rule : ModuleRule) → case.setups ≡ made ++ after → made ≡ before ++ x ∷ more
      → CarriesOut names ports types case made before config
      → PairBreaks config (variables before) (interface_behind case made) x.action rule
      → SetupBreaks names ports types case begins rule x.line

-- the test case breaks a rule on setup, given the component types with their names and ports
pub record CaseSetupBreaks (names : List (List ℕ)) (types : List ComponentType) (made : List (List PortDecl))
    (case : TestCase) (begins : ℕ) (rule : ModuleRule) (line : ℕ) : Type 0 where
  pub ports : List (List ℕ)
  pub has_ports : HasPorts types case.runs_on ports
  pub breaks : SetupBreaks names ports made case begins rule line
