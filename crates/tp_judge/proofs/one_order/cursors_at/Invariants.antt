-- The cursors at the places so far.
use Rattle.std.proofs.Common.{◌≡◌, map, take}
use Rattle.tp_judge.specs.Cursors.{cursor_at}
use Rattle.tp_judge.proofs.one_order.cursors_at.Given as goal

abbrev pub invariant-loop-place : goal.invariant-loop-place
invariant-loop-place l = l.cursors.items ≡ map cursor_at (take l.place-index l.places)
