-- As many routes are filed as there were turns.
use Rattle.tp_inbox.specs.Places.{AreFiled}
use Rattle.tp_inbox.proofs.making.places_of.Given as goal

-- the routes so far are filed
abbrev pub invariant-loop-place : goal.invariant-loop-place
invariant-loop-place l = AreFiled l.place l.routes l.places
