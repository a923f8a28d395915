-- The types are those that the directions so far let in.
use Rattle.std.proofs.Common.{take}
use Rattle.std.specs.List.{AllZip, flat_map}
use Rattle.tp_checks.specs.Resolved.{IsTypeNamed, received_types}
use Rattle.tp_checks.proofs.ports.received_types.Given as goal

abbrev pub invariant-loop-direction : goal.invariant-loop-direction
invariant-loop-direction l = AllZip (IsTypeNamed l.types) (flat_map received_types (take l.direction-index l.directions)) l.made
