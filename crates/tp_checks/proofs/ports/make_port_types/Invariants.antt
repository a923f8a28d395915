-- The port types so far have the lists of what they receive and send.
use Rattle.std.proofs.Common.{map, take}
use Rattle.std.specs.List.{AllZip}
use Rattle.tp_checks.specs.Resolved.{IsMade}
use Rattle.tp_checks.proofs.ports.make_port_types.Given as goal

abbrev pub invariant-loop-port_type : goal.invariant-loop-port_type
invariant-loop-port_type l = AllZip (IsMade l.types) (map (λ p. p.now) (take l.port_type-index l.port_types)) l.made.items
