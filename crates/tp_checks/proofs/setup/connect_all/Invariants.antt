-- The statements so far were done, and the variables are those that they declare.
use Rattle.std.proofs.Common.{◌≡◌, take}
use Rattle.tp_checks.specs.{Tables.IsNumbered, Components.component_number, Components.variables, Configuring.Makes}
use Rattle.tp_checks.proofs.setup.connect_all.Given as goal

abbrev pub invariant-loop-setup : goal.invariant-loop-setup
invariant-loop-setup l = record {
  known : l.known ≡ variables (take l.setup-index l.setups);
  numbered : IsNumbered l.known;
  makes : Makes (component_number l.system) l.fn.config (take l.setup-index l.setups) l.config;
}
