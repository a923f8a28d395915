-- The arguments so far name components, each of its parameter's type.
use Rattle.std.proofs.Common.{map, take}
use Rattle.std.specs.List.{AllZip}
use Rattle.tp_checks.specs.Starting.{HasParameterType, IsArgument}
use Rattle.tp_checks.proofs.starting.check_arguments.Given as goal

abbrev pub invariant-loop-i : goal.invariant-loop-i
invariant-loop-i l = record {
  known : AllZip (IsArgument l.variables) (take l.i l.arguments) l.made.items;
  fits : AllZip (HasParameterType (map (λ t. t.now) l.types)) (take l.i l.parameters) l.made.items;
}
