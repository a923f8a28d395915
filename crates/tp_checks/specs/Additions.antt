-- Why a component can't be added to a configuration, and where creating the components stops.
use Rattle.std.specs.Prelude.{◌≡◌, ◌<◌, ◌≤◌, ◌+◌, ◌⊎◌, ℕ, true, Some, IfSome, IsSome, List, ◌∷◌, ◌++◌}
use Rattle.std.specs.Prelude.{Contains, codes, length}
use Rattle.tp_tree.specs.declared.tree.{Creation.Creation, SetupStatement.SetupStatement, TestCase.TestCase}
use Rattle.tp_config.specs.{Setup.Setup, Setup.is_system_role, Setup.names_of_components, Causes.HasSystem}
use Rattle.tp_checks.specs.declared.fault.{ModuleRule.ModuleRule, ModuleFault.ModuleFault}
use Rattle.tp_checks.specs.declared.fault.ModuleRule.TheVariants.{Unknown, Duplicate, Limit}
use Rattle.tp_checks.specs.{Refused.TellsAt, BrokenSetup.CreationBreaks}
use Rattle.tp_checks.specs.Components.{Declared, HasSoundVariables, creation_of, creations, variables}

-- adding a component to a configuration breaks this rule, given the names of the component types
pub data AdditionBreaks (types : List (List ℕ)) (x : Declared) (s : Setup) : ModuleRule → Type 0 where
  -- its type is unknown (11)
  addition_unknown : (Contains types x.type_name → ⊥) → AdditionBreaks types x s Unknown
  -- a component has its name, or it is a second test system interface (12)
  addition_taken : Contains (names_of_components s) x.name ⊎ ((is_system_role x.role ≡ true) × HasSystem s.components)
      → AdditionBreaks types x s Duplicate
  -- there are 64 components already (15)
  addition_many : 64 ≤ length s.components → AdditionBreaks types x s Limit

-- a configuration has the components and the variables of these names, and room for the greatest number of variables
pub record HasRoomForVariables (types others variables : List (List ℕ)) (most : ℕ) (s : Setup) : Type 0 where
  pub typed : length types ≡ length s.types
  pub named : names_of_components s ≡ others ++ variables
  pub few : length variables ≤ most
  pub room : length others + most ≤ 64

-- the test system interface can't be added, because a component has its name (12)
pub data InterfaceBreaks (case : TestCase) (s : Setup) : ModuleRule → Type 0 where
  interface_named : IsSome case.system → Contains (names_of_components s) (codes "system") → InterfaceBreaks case s Duplicate

-- the test system interface can be added, unless a component has its name
pub record AwaitsInterface (types : List (List ℕ)) (case : TestCase) (s : Setup) : Type 0 where
  pub typed : length types ≡ length s.types
  pub known : IfSome case.system (λ name. Contains types name)
  pub tests : HasSystem s.components → ⊥
  pub room : IsSome case.system → length s.components < 64

-- the `var` at which creating the components stopped: those before it obey the rules on variables, and it breaks the
-- rule that is reported at its line, or memory ran out
pub record StopsCreating (types ports others : List (List ℕ)) (most : ℕ) (list before : List SetupStatement)
    (fault : ModuleFault) : Type 0 where
  pub statement : SetupStatement
  pub creation : Creation
  pub after : List SetupStatement
  pub split : list ≡ before ++ statement ∷ after
  pub makes : creation_of statement ≡ Some creation
  pub sound : HasSoundVariables types ports most (creations before)
  pub told : TellsAt statement.line (CreationBreaks types ports others (variables before) most creation) fault
