-- The component types so far are made, each with at most 64 ports.
use Rattle.std.proofs.Common.{◌≤◌, All, length, map, take}
use Rattle.std.specs.List.{AllZip}
use Rattle.tp_checks.specs.{Resolved.IsComponentType, Sorted.port_types_in}
use Rattle.tp_checks.proofs.ports.make_components.Given as goal

abbrev pub invariant-loop-component : goal.invariant-loop-component
invariant-loop-component l = record {
  components : AllZip (IsComponentType l.sorted.type_names (port_types_in l.sorted)) (map (λ c. c.now) (take l.component-index l.component-items))
      l.components.items;
  few : All (λ t. length t.ports.entries ≤ 64) l.components.items;
}
