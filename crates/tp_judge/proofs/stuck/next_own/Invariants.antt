-- None of the lines so far says what the component did itself.
use Rattle.std.proofs.Common.{ℕ, ◌<◌, ◌≤◌}
use Rattle.tp_judge.specs.OneRun.{IsOwnAt}
use Rattle.tp_judge.proofs.stuck.next_own.Given as goal

abbrev pub invariant-loop-place : goal.invariant-loop-place
invariant-loop-place l = (q : ℕ) → l.from ≤ q → q < l.place → IsOwnAt l.trace l.component q → ⊥
