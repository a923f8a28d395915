-- The components of the statements so far are made, and their variables are sound.
use Rattle.std.proofs.Common.{◌≡◌, map, take}
use Rattle.tp_checks.specs.Tables.{IsNumbered}
use Rattle.tp_checks.specs.Components.{AddsAll, HasSoundVariables, created, creations, variable_name}
use Rattle.tp_checks.proofs.components.create_components.Given as goal

abbrev pub invariant-loop-i : goal.invariant-loop-i
invariant-loop-i l = record {
  names : l.variables ≡ map variable_name (creations (take l.i l.setups));
  numbered : IsNumbered l.variables;
  sound : HasSoundVariables l.rules.type_names.now l.rules.port_names.now l.rules.most (creations (take l.i l.setups));
  added : AddsAll l.rules.type_names.now (map created (creations (take l.i l.setups))) l.fn.config l.config;
}
