-- All are at rest where those that are left are.
use Rattle.std.proofs.Common.{◌↔◌, drop}
use Rattle.std.specs.Prelude.{All}
use Rattle.tp_exec.specs.Reporting.{IsAtRest}
use Rattle.tp_exec.proofs.waiting.are_at_rest.Given as goal

abbrev pub invariant-loop-component : goal.invariant-loop-component
invariant-loop-component l = All IsAtRest l.components ↔ All IsAtRest (drop l.component-index l.components)
