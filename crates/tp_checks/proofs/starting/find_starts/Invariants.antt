-- The places of the starts of the variables so far are found.
use Rattle.std.proofs.Common.{take}
use Rattle.std.specs.List.{AllZip}
use Rattle.tp_checks.specs.{Components.variables, Starting.IsStartPlace}
use Rattle.tp_checks.proofs.starting.find_starts.Given as goal

abbrev pub invariant-loop-setup : goal.invariant-loop-setup
invariant-loop-setup l = AllZip (IsStartPlace l.started) (variables (take l.setup-index l.setups)) l.places.items
