-- What the definitions of a module define.
use Rattle.std.specs.Prelude.{◌≤◌, All, length}
use Rattle.tp_tree.specs.declared.tree.Module.{Module}
use Rattle.tp_checks.specs.declared.definitions.Definitions.{Definitions}
use Rattle.tp_checks.specs.{Sorted.AreSorted, Resolved.AreTypes, Resolved.AreComponentTypes}

-- the definitions are sorted, and the types and component types are those of the module and nothing else
pub record IsDefined (m : Module) (d : Definitions) : Type 0 where
  pub sorted : AreSorted m d.sorted
  pub types : AreTypes m d.types
  pub components : AreComponentTypes m d.component_types.items
  pub few_ports : All (λ t. length t.ports.entries ≤ 64) d.component_types.items
