-- No parameter has the name of one of the ports so far.
use Rattle.std.proofs.Common.{◌≡◌, ℕ, ◌<◌, List, slice_get, Some}
use Rattle.tp_checks.specs.{Named.IsAbsent, Scoping.ports_in}
use Rattle.tp_checks.proofs.variables.are_no_ports.Given as goal

abbrev pub invariant-loop-place : goal.invariant-loop-place
invariant-loop-place l =
    (k : ℕ) (name : List ℕ) → k < l.place → slice_get ((ports_in l.scope.component_type.now).names) k ≡ Some name → IsAbsent l.scope.parameters.now name
