-- The components of a test case.
use Rattle.std.specs.Prelude.{◌≡◌, ◌≤◌, ◌<◌, ◌+◌, true, ℕ, Option, Some, None, List, [], ◌∷◌, ◌++◌, All, Contains}
use Rattle.std.specs.{Prelude.codes, Prelude.length, Prelude.map, Prelude.option_to_list, Option.option_map}
use Rattle.std.specs.List.{AllZip, filter_map}
use Rattle.tp_tree.specs.declared.tree.{ComponentType.ComponentType, Creation.Creation, SetupStatement.SetupStatement}
use Rattle.tp_tree.specs.declared.tree.{SetupAction.SetupAction, TestCase.TestCase}
use Rattle.tp_tree.specs.declared.tree.SetupAction.TheVariants as setup_action
use Rattle.tp_config.specs.declared.port_type.{CompId.CompId, Role.Role}
use Rattle.tp_config.specs.declared.port_type.Role.TheVariants as role
use Rattle.tp_config.specs.Setup.{Setup, Member, creating, is_system_role, names_of_components}
use Rattle.tp_config.specs.Causes.{HasSystem}
use Rattle.tp_checks.specs.declared.components.DeclaredComponent.{DeclaredComponent}
use Rattle.tp_checks.specs.{Tables.AreDistinct, Tables.IsNumbered, Tables.place_of_name, Definitions.declared_ports}

abbrev pub creation_in : SetupAction → Option Creation
creation_in (setup_action.Create c) = Some c
creation_in (setup_action.Connect p q) = None
creation_in (setup_action.Map p q) = None

-- the creation of a component, if the setup statement is one
abbrev pub creation_of : SetupStatement → Option Creation
creation_of x = creation_in x.action

-- the creations in the setup statements, in the order of the text
abbrev pub creations : List SetupStatement → List Creation
creations xs = filter_map creation_of xs

abbrev pub variable_name : Creation → List ℕ
variable_name c = c.name

-- the names of the component variables
abbrev pub variables : List SetupStatement → List (List ℕ)
variables xs = map variable_name (creations xs)

-- a component as the text declares it: its name, the name of its type, and its role
pub record Declared : Type 0 where
  pub name : List ℕ
  pub type_name : List ℕ
  pub role : Role

abbrev pub declared_as : DeclaredComponent → Declared
declared_as x = record { name = x.name.now; type_name = x.type_name.now; role = x.role }

abbrev pub created : Creation → Declared
created c = record { name = variable_name c; type_name = c.type_name; role = role.Test }

-- `mtc`, of the type after `runs on`
abbrev pub main_component : TestCase → Declared
main_component case = record { name = codes "mtc"; type_name = case.runs_on; role = role.Test }

-- the test system interface, of the type after `system`, if there is such a clause
abbrev pub interface : TestCase → List Declared
interface case =
    option_to_list (option_map
    (λ s. record { name = codes "system"; type_name = s; role = role.System }) case.system)

-- the number of a component, if there is one
abbrev pub component_number : Option CompId → Option ℕ
component_number found = option_map (λ (c : CompId). c.0) found

-- the components in their order: `mtc`, those that are created, and the test system interface
abbrev pub component_list : TestCase → List Declared
component_list case = (main_component case ∷ map created (creations case.setups)) ++ interface case

-- a component of the configuration is this declared one, given the names of the component types
pub record IsMember (types : List (List ℕ)) (x : Declared) (m : Member) : Type 0 where
  pub name : m.name ≡ x.name
  pub kind : place_of_name types x.type_name ≡ Some m.kind
  pub role : m.role ≡ x.role

-- one component was added to the configuration
pub record Adds (types : List (List ℕ)) (x : Declared) (old new : Setup) : Type 0 where
  pub member : Member
  pub is_member : IsMember types x member
  pub added : new ≡ creating old member
  -- no other component has the name
  pub new_name : Contains (names_of_components old) member.name → ⊥

-- a component can be added to the configuration, given the names of its component types
pub record CanAdd (types : List (List ℕ)) (x : Declared) (s : Setup) : Type 0 where
  pub typed : length types ≡ length s.types
  pub known : Contains types x.type_name
  pub new_name : Contains (names_of_components s) x.name → ⊥
  pub one_interface : is_system_role x.role ≡ true → HasSystem s.components → ⊥
  pub room : length s.components < 64

-- the names of the ports of the component type of this name
pub record HasPorts (types : List ComponentType) (name : List ℕ) (ports : List (List ℕ)) : Type 0 where
  pub component : ComponentType
  pub there : Contains types component
  pub named : component.name ≡ name
  pub ports_are : ports ≡ declared_ports component.ports

-- the rules on component variables, given the names of the component types and of the main component's ports, and the
-- greatest number of variables
pub record HasSoundVariables (types ports : List (List ℕ)) (most : ℕ) (xs : List Creation) : Type 0 where
  -- no two variables have the same name
  pub distinct : AreDistinct (map variable_name xs)
  -- none has the name of a port of the main component
  pub no_port : All (λ (c : Creation). Contains ports (variable_name c) → ⊥) xs
  -- the types are known
  pub known : All (λ (c : Creation). Contains types c.type_name) xs
  -- the two types of a `var` are the same
  pub same : All (λ (c : Creation). c.type_name ≡ c.created) xs
  -- there are at most 64 components, `mtc` and `system` counted
  pub few : length xs ≤ most

-- the rules on one more component variable, given also the names of those before it
pub record IsSoundVariable (types ports names : List (List ℕ)) (most : ℕ) (c : Creation) : Type 0 where
  pub numbered : IsNumbered (names ++ variable_name c ∷ [])
  pub no_port : Contains ports (variable_name c) → ⊥
  pub known : Contains types c.type_name
  pub same : c.type_name ≡ c.created
  pub few : length (names ++ variable_name c ∷ []) ≤ most

-- test components of these names can be added to the configuration, given the names of its component types
pub record CanAddAll (types added : List (List ℕ)) (s : Setup) : Type 0 where
  pub typed : length types ≡ length s.types
  pub distinct : AreDistinct (names_of_components s ++ added)
  pub room : length s.components + length added ≤ 64

-- the components were added to the configuration as declared, one after the other, and nothing else changed
pub record AddsAll (types : List (List ℕ)) (xs : List Declared) (old new : Setup) : Type 0 where
  pub components : (before : List Declared) → AllZip (IsMember types) before old.components
      → AllZip (IsMember types) (before ++ xs) new.components
  pub names_more : names_of_components new ≡ names_of_components old ++ map (λ (x : Declared). x.name) xs
  -- no two of them have the same name, if no two had before
  pub apart : AreDistinct (names_of_components old) → AreDistinct (names_of_components new)
  pub types_stay : new.types ≡ old.types
  pub connected_stay : new.connected ≡ old.connected
  pub mapped_stay : new.mapped ≡ old.mapped

-- the components of the first of these setup statements were added, and those of the rest were not
pub record HasStopped (types : List (List ℕ)) (setups before : List SetupStatement) (old new : Setup) : Type 0 where
  pub rest : List SetupStatement
  pub all : setups ≡ before ++ rest
  pub added : AddsAll types (map created (creations before)) old new

-- within each component type the names of the ports are distinct, and fewer than 2 ^ 32
abbrev pub HaveDistinctPorts : List ComponentType → Type 0
HaveDistinctPorts types = All (λ (c : ComponentType). IsNumbered (declared_ports c.ports)) types
