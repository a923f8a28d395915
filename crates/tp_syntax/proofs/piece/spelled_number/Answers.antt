-- Above a tenth of the greatest number, one digit more makes a number too great.
use Rattle.std.proofs.Common.{◌<◌, subst}
use Rattle.tp_syntax.proofs.TokenFaults.{too_great}
use Rattle.tp_syntax.proofs.piece.spelled_number.Goals as goal

pub returns-then-value-clause-great : goal.returns-then-value-clause-great
returns-then-value-clause-great c =
    subst (λ n. 9223372036854775808 < n) c.loop-digit.invariant
    (too_great c.loop-digit.value c.loop-digit.digit-index c.args.digits.now c.loop-digit-test.true c.if-value.true)
