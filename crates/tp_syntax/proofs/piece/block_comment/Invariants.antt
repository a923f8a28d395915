-- No `*/` begins among the bytes so far.
use Rattle.std.proofs.Common.{◌≡◌, ℕ, ◌+◌, ◌≤◌, ◌<◌, ◌-◌, get_or, length}
use Rattle.tp_syntax.proofs.piece.block_comment.Given as goal

abbrev pub invariant-loop-n : goal.invariant-loop-n
invariant-loop-n l = record {
  within : l.n ≤ length l.bytes;
  none : (k : ℕ) → k < l.n → get_or l.bytes k 0 ≡ 42 → get_or l.bytes (k + 1) 0 ≡ 47 → ⊥;
}

abbrev pub decreases-loop-n : goal.decreases-loop-n
decreases-loop-n l = length l.initial.bytes - l.n
