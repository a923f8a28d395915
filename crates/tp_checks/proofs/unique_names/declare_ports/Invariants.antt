-- The names of the ports so far are added, and no two are equal.
use Rattle.std.proofs.Common.{◌≡◌, ◌++◌, take}
use Rattle.tp_checks.specs.{Tables.IsNumbered, Definitions.declared_ports}
use Rattle.tp_checks.proofs.unique_names.declare_ports.Given as goal

abbrev pub invariant-loop-port : goal.invariant-loop-port
invariant-loop-port l = record { names : l.names ≡ l.fn.names ++ declared_ports (take l.port-index l.ports); numbered : IsNumbered l.names }
