-- The components of the variables so far stand after the others, numbered from 1.
use Rattle.std.proofs.Common.{map}
use Rattle.tp_script.specs.Behaviours.{Numbers}
use Rattle.tp_script.proofs.instances.add_variables.Given as goal

abbrev pub invariant-loop-place : goal.invariant-loop-place
invariant-loop-place l = Numbers l.place (map (λ c. c.0) l.fn.references.items) (map (λ c. c.0) l.references.items)
