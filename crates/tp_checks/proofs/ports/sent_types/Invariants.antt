-- The types are those that the directions so far let out.
use Rattle.std.proofs.Common.{take}
use Rattle.std.specs.List.{AllZip, flat_map}
use Rattle.tp_checks.specs.Resolved.{IsTypeNamed, sent_types}
use Rattle.tp_checks.proofs.ports.sent_types.Given as goal

abbrev pub invariant-loop-direction : goal.invariant-loop-direction
invariant-loop-direction l = AllZip (IsTypeNamed l.types) (flat_map sent_types (take l.direction-index l.directions)) l.made
