-- Nothing after the mark is it, at the places so far.
use Rattle.std.proofs.Common.{◌≢◌, ◌<◌, ◌≤◌, ℕ, Some}
use Rattle.std.specs.Prelude.{slice_get}
use Rattle.tp_judge.specs.Lines.{envelope_of}
use Rattle.tp_judge.proofs.replaying.is_after_mark.Given as goal

abbrev pub invariant-loop-place : goal.invariant-loop-place
invariant-loop-place l =
    (k : ℕ) → l.queue.ahead ≤ k → k < l.place → slice_get l.queue.entries k ≢ Some (envelope_of l.mention)
