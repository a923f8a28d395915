-- The places of the components so far.
use Rattle.std.proofs.Common.{◌≡◌, length}
use Rattle.tp_judge.specs.OrderProgress.{AreBegun}
use Rattle.tp_judge.proofs.one_order.first_places.Given as goal

abbrev pub invariant-loop-c : goal.invariant-loop-c
invariant-loop-c g l = AreBegun (g.H.Histories.kinds l.histories) l.c l.places.items
