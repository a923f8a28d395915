-- The ports of the declarations so far are counted, and they are at most 64.
use Rattle.std.proofs.Common.{◌≡◌, ◌≤◌, length, take}
use Rattle.tp_checks.specs.Definitions.{declared_ports}
use Rattle.tp_checks.proofs.definitions.are_ports_few.Given as goal

abbrev pub invariant-loop-port : goal.invariant-loop-port
invariant-loop-port l = record { count : l.count ≡ length (declared_ports (take l.port-index l.ports)); few : l.count ≤ 64 }
