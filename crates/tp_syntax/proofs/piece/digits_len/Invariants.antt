-- The digits so far, and then those at the front of the rest, are all that stand at the front.
use Rattle.std.proofs.Common.{◌≡◌, ◌+◌, ◌≤◌, ◌-◌, length, drop}
use Rattle.std.specs.List.{prefix_len}
use Rattle.tp_syntax.specs.Byte.{is_digit}
use Rattle.tp_syntax.proofs.piece.digits_len.Given as goal

abbrev pub invariant-loop-n : goal.invariant-loop-n
invariant-loop-n l = record {
  within : l.n ≤ length l.bytes;
  so_far : l.n + prefix_len is_digit (drop l.n l.bytes) ≡ prefix_len is_digit l.bytes;
}

abbrev pub decreases-loop-n : goal.decreases-loop-n
decreases-loop-n l = length l.initial.bytes - l.n
