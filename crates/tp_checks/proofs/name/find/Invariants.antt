-- The name is not among those that were looked at.
use Rattle.std.proofs.Common.{◌≢◌, ℕ, ◌<◌, slice_get, Some}
use Rattle.tp_checks.specs.Named.{texts}
use Rattle.tp_checks.proofs.name.find.Given as goal

-- the name stands at none of the places that the loop has passed
abbrev pub invariant-loop-place : goal.invariant-loop-place
invariant-loop-place l = (j : ℕ) → j < l.place → slice_get (texts l.names) j ≢ Some l.name
