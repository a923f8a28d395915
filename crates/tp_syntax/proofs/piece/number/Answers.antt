-- All the digits at the front are the number, and one beyond the limit is refused as such.
use Rattle.std.proofs.Common.{ℕ, refl, take}
use Rattle.std.proofs.lemmas.Result.{err_from_is_err_and}
use Rattle.tp_syntax.specs.Byte.{is_digit}
use Rattle.tp_syntax.specs.Lexeme.{number}
use Rattle.tp_syntax.specs.Spelling.{value_on}
use Rattle.tp_syntax.proofs.LongestByteRuns.{run_front}
use Rattle.tp_syntax.proofs.LongestTokens.{number_at}
use Rattle.tp_syntax.proofs.TokenFaults.{refused_limit, beyond, beyond_greatest}
use Rattle.tp_syntax.proofs.piece.number.Goals as goal

pub spelled_number-requires : goal.spelled_number-requires
spelled_number-requires c = rw c.digits_len-size.ensures (run_front is_digit c.args.bytes.now)

pub returns-clause-token : goal.returns-clause-token
returns-clause-token c =
    number_at c.args.bytes.now c.digits_len-size.result c.in_ok-value.value c.requires c.if-bytes-eq48.false
    c.digits_len-size.ensures c.in_ok-value.ensures.value

pub returns-in_err-value-clause-refused : goal.returns-in_err-value-clause-refused
returns-in_err-value-clause-refused c =
    let p = err_from_is_err_and c.from_residual.result c.from_residual.ensures.1 in
    let v : ℕ = value_on 0 (take c.digits_len-size.result c.args.bytes.now) in
    rw (p.1, p.2) (refused_limit c.args.bytes.now c.args.line c.in_err-value.field-0.0 c.in_err-value.ensures.refused
    (beyond c.args.bytes.now (number v) c.digits_len-size.result
    (number_at c.args.bytes.now c.digits_len-size.result v c.requires c.if-bytes-eq48.false c.digits_len-size.ensures refl)
    (λ le. beyond_greatest v c.in_err-value.ensures.great le)))
