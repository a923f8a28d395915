-- The value so far, carried on by the digits that are left, is the value of all the digits.
use Rattle.std.proofs.Common.{◌≡◌, drop}
use Rattle.tp_syntax.specs.Spelling.{value_on}
use Rattle.tp_syntax.proofs.piece.spelled_number.Given as goal

abbrev pub invariant-loop-digit : goal.invariant-loop-digit
invariant-loop-digit l = value_on l.value (drop l.digit-index l.digits) ≡ value_on 0 l.digits
