-- The ports are those of the declarations so far, in their order.
use Rattle.std.proofs.Common.{take}
use Rattle.std.specs.List.{AllZip}
use Rattle.tp_config.specs.Shape.{ports_of}
use Rattle.tp_checks.specs.{Resolved.IsPortDecl, Resolved.port_list, Sorted.port_types_in}
use Rattle.tp_checks.proofs.ports.make_component.Given as goal

abbrev pub invariant-loop-declaration : goal.invariant-loop-declaration
invariant-loop-declaration l =
    AllZip (IsPortDecl l.sorted.type_names (port_types_in l.sorted)) (port_list (take l.declaration-index l.declaration-items)) (ports_of l.ports)
