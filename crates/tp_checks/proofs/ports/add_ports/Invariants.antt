-- The ports of the names so far stand after those that were there.
use Rattle.std.proofs.Common.{◌≡◌, ◌++◌, map, take}
use Rattle.tp_config.specs.Shape.{ports_of}
use Rattle.tp_checks.specs.Resolved.{port_decl}
use Rattle.tp_checks.proofs.ports.add_ports.Given as goal

abbrev pub invariant-loop-name : goal.invariant-loop-name
invariant-loop-name l = ports_of l.component ≡ ports_of l.fn.component ++ map (port_decl l.port_type) (take l.name-index l.names)
