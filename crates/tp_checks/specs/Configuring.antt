-- The configuration that the setup statements of a test case make (ES 201 873-1, 21.1).
use Rattle.std.specs.Prelude.{◌≡◌, ℕ, ◌+◌, Option, Some, List, [], ◌∷◌, ◌++◌, if◌then◌else◌, All}
use Rattle.std.specs.{Prelude.is_some, Prelude.length, Prelude.map, Prelude.slice_get, Option.option_map, List.AllZip}
use Rattle.tp_tree.specs.declared.tree.{PairEnd.PairEnd, EndComponent.EndComponent, SetupStatement.SetupStatement}
use Rattle.tp_tree.specs.declared.tree.{SetupAction.SetupAction, TestCase.TestCase, ComponentType.ComponentType}
use Rattle.tp_tree.specs.declared.tree.EndComponent.TheVariants as end_component
use Rattle.tp_tree.specs.declared.tree.SetupAction.TheVariants as setup_action
use Rattle.tp_config.specs.declared.port_type.PortRef.{PortRef}
use Rattle.tp_config.specs.Setup.{Setup, PortDecl, IsPort, empty_setup, connecting, mapping, port_names}
use Rattle.tp_config.specs.Allowed.{CanConnect, CanMap}
use Rattle.tp_checks.specs.{Tables.AreDistinct, Tables.place_of_name, Definitions.declared_ports}
use Rattle.tp_checks.specs.Components.{AddsAll, HaveDistinctPorts, Declared, HasPorts, HasSoundVariables, IsMember}
use Rattle.tp_checks.specs.Components.{component_list, created, creations, main_component, variables}

-- the number of the component that a setup statement names, given the names of the component variables before it and,
-- if there is a `system` clause, the number of the test system interface
abbrev pub end_component_number : List (List ℕ) → Option ℕ → EndComponent → Option ℕ
end_component_number names system (end_component.Named n) = option_map (λ k. k + 1) (place_of_name names n)
end_component_number names system end_component.Mtc = Some 0
end_component_number names system end_component.SelfComponent = Some 0
end_component_number names system end_component.System = system

-- the port that a setup statement names
pub record IsPortOfEnd (s : Setup) (names : List (List ℕ)) (system : Option ℕ) (x : PairEnd) (p : PortRef) : Type 0 where
  pub component_known : end_component_number names system x.component ≡ Some p.comp.0
  pub port_known : slice_get (port_names s p.comp) p.port ≡ Some x.port
  pub is_port : IsPort s p

pub record Connects (s : Setup) (names : List (List ℕ)) (system : Option ℕ) (x y : PairEnd) (t : Setup) : Type 0 where
  pub p : PortRef
  pub q : PortRef
  pub first : IsPortOfEnd s names system x p
  pub second : IsPortOfEnd s names system y q
  pub can : CanConnect s p q
  pub connected : t ≡ connecting s p q

pub record Maps (s : Setup) (names : List (List ℕ)) (system : Option ℕ) (x y : PairEnd) (t : Setup) : Type 0 where
  pub p : PortRef
  pub q : PortRef
  pub first : IsPortOfEnd s names system x p
  pub second : IsPortOfEnd s names system y q
  pub can : CanMap s p q
  pub mapped : t ≡ mapping s p q

-- the configuration that one setup statement makes of another, which has all components already
abbrev pub IsStep : Setup → List (List ℕ) → Option ℕ → SetupAction → Setup → Type 0
IsStep s names system (setup_action.Create c) t = t ≡ s
IsStep s names system (setup_action.Connect x y) t = Connects s names system x y t
IsStep s names system (setup_action.Map x y) t = Maps s names system x y t

-- the configuration that the setup statements make of another, one after the other
pub data Makes (system : Option ℕ) (start : Setup) : List SetupStatement → Setup → Type 0 where
  nothing : Makes system start [] start
  one_more : (xs : List SetupStatement) (s : Setup) (x : SetupStatement) (t : Setup) → Makes system start xs s
      → IsStep s (variables xs) system x.action t → Makes system start (xs ++ x ∷ []) t

-- the number of the test system interface, which comes after `mtc` and the created components
abbrev pub interface_number : TestCase → Option ℕ
interface_number case = option_map (λ _. length (creations case.setups) + 1) case.system

-- how many component variables a test case may have: with `mtc` and `system` there are at most 64 components
abbrev pub most_variables : TestCase → ℕ
most_variables case = if is_some case.system then 62 else 63

-- the configuration of a test case, given the names and ports of the component types: it has the declared components,
-- and only the connections and mappings of the setup statements
pub record IsConfigBySetup (names : List (List ℕ)) (types : List (List PortDecl)) (case : TestCase) (config : Setup)
    : Type 0 where
  pub start : Setup
  pub types_are : start.types ≡ types
  pub components_are : AllZip (IsMember names) (component_list case) start.components
  -- no two components have the same name: no variable is named `mtc`, or `system` if there is a test system interface
  pub apart : AreDistinct (map (λ (x : Declared). x.name) (component_list case))
  pub not_connected : start.connected ≡ []
  pub not_mapped : start.mapped ≡ []
  pub makes : Makes (interface_number case) start case.setups config

-- the component variables of the test case obey their rules
pub record AreSoundVariables (names : List (List ℕ)) (types : List ComponentType) (case : TestCase) : Type 0 where
  pub ports : List (List ℕ)
  -- these are the ports of the component type after `runs on`
  pub has_ports : HasPorts types case.runs_on ports
  pub sound : HasSoundVariables names ports (most_variables case) (creations case.setups)

-- the test case obeys the rules on setup, given the component types with their names and ports
pub record CanSetUp (names : List (List ℕ)) (types : List ComponentType) (ports : List (List PortDecl))
    (case : TestCase) : Type 0 where
  pub variables : AreSoundVariables names types case
  pub config : Setup
  pub is_set_up : IsConfigBySetup names ports case config

-- the names of ports
abbrev pub names_of_ports : List PortDecl → List (List ℕ)
names_of_ports ports = map (λ (d : PortDecl). d.name) ports

-- no two ports of one component type have the same name
abbrev pub HaveOwnPorts : List (List PortDecl) → Type 0
HaveOwnPorts made = All (λ (ports : List PortDecl). AreDistinct (names_of_ports ports)) made

-- each component type has its ports, no two of them with the same name
pub record HavePorts (names : List (List ℕ)) (made : List (List PortDecl)) : Type 0 where
  pub typed : length names ≡ length made
  pub own : HaveOwnPorts made

-- the test case obeys the rules on setup, given the names and ports of the component types, and the names of the main
-- component's ports
pub record CanSetUpBeside (names ports : List (List ℕ)) (made : List (List PortDecl)) (case : TestCase) : Type 0 where
  pub sound : HasSoundVariables names ports (most_variables case) (creations case.setups)
  pub config : Setup
  pub is_set_up : IsConfigBySetup names made case config

-- the configuration has `mtc` and the components of the first setup statements, and nothing else
pub record HasFirst (names : List (List ℕ)) (case : TestCase) (before : List SetupStatement) (s : Setup) : Type 0 where
  pub rest : List SetupStatement
  pub all : case.setups ≡ before ++ rest
  pub added : AddsAll names (main_component case ∷ map created (creations before)) (empty_setup s.types) s

-- these ports have the names of those of the component types, and no two ports of one type have the same name
pub record AreOwnPorts (types : List ComponentType) (made : List (List PortDecl)) : Type 0 where
  pub same : map names_of_ports made ≡ map (λ (c : ComponentType). declared_ports c.ports) types
  pub numbered : HaveDistinctPorts types
