-- The types of the names so far stand after those that were there.
use Rattle.std.proofs.Common.{take}
use Rattle.tp_checks.specs.Resolved.{Appends}
use Rattle.tp_checks.proofs.ports.add_types.Given as goal

abbrev pub invariant-loop-name : goal.invariant-loop-name
invariant-loop-name l = Appends l.types (take l.name-index l.names) l.fn.made l.made
