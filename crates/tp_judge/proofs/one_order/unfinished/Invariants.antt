-- The components so far have ended.
use Rattle.std.proofs.Common.{◌≡◌, ◌<◌, ℕ, length, slice_index}
use Rattle.tp_judge.proofs.one_order.unfinished.Given as goal

abbrev pub invariant-loop-c : goal.invariant-loop-c
invariant-loop-c g l = (k : ℕ) → k < l.c → slice_index l.progress.places.items k ≡ length (g.H.Histories.kinds l.histories k)
