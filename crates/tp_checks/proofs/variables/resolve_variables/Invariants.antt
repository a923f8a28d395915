-- The variables so far hold what their types say, and each had a new name.
use Rattle.std.proofs.Common.{take}
use Rattle.tp_checks.specs.{Tables.IsNumbered, Bodies.AreVariables, Scoping.visible_in}
use Rattle.tp_checks.proofs.variables.resolve_variables.Given as goal

abbrev pub invariant-loop-variable : goal.invariant-loop-variable
invariant-loop-variable l = record {
  declared : AreVariables (visible_in l.scope) (take l.variable-index l.declared) l.variables;
  numbered : IsNumbered l.variables.names;
}
