-- The bytes so far are printable characters of the text, with each quote doubled.
use Rattle.std.proofs.Common.{◌≡◌, ◌≤◌, ◌-◌, length, take}
use Rattle.tp_syntax.specs.Byte.{is_printable}
use Rattle.tp_syntax.specs.Spelling.{Run, doubled}
use Rattle.tp_syntax.proofs.piece.quoted.Given as goal

abbrev pub invariant-loop-at : goal.invariant-loop-at
invariant-loop-at l = record {
  within : l.at ≤ length l.bytes;
  spelled : take l.at l.bytes ≡ doubled l.characters.items;
  printable : Run is_printable l.characters.items;
}

abbrev pub decreases-loop-at : goal.decreases-loop-at
decreases-loop-at l = length l.initial.bytes - l.at
