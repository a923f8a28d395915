-- The longest word at the front is a reserved word or a name; a name too long is refused.
use Rattle.std.proofs.Common.{refl, sym, take, ◌∙◌, arith}
use Rattle.tp_syntax.specs.Lexeme.{name, word}
use Rattle.std.proofs.lemmas.List.Sums.{prefix_len-le-length}
use Rattle.std.proofs.lemmas.Str.{IsUtf8-from_ascii}
use Rattle.tp_syntax.specs.Byte.{is_word_byte}
use Rattle.tp_syntax.proofs.TokenFaults.{run_ascii, refused_limit, beyond, beyond_longest}
use Rattle.tp_syntax.proofs.LongestByteRuns.{run_front}
use Rattle.tp_syntax.proofs.LongestTokens.{word_at}
use Rattle.tp_syntax.proofs.piece.word.Goals as goal

pub returns-in-Some-clause-token : goal.returns-in-Some-clause-token
returns-in-Some-clause-token c = word_at c.args.bytes.now c.word_len-size.result (word c.in-Some.word) c.requires c.word_len-size.ensures
    (λ is. (is, sym c.word_spelled.ensures ∙ c.in-Some.is))

pub returns-clause-token : goal.returns-clause-token
returns-clause-token c = word_at c.args.bytes.now c.word_len-size.result (name c.in-Ok.name.now) c.requires c.word_len-size.ensures
    (λ is. (is, sym c.word_spelled.ensures ∙ c.in_default.is, c.in-Ok.ensures.cases.0))

pub unreachable-requires : goal.unreachable-requires
unreachable-requires c = c.in_default-from_utf8.ensures.cases.0 (IsUtf8-from_ascii _ (run_ascii _ (rw c.word_len-size.ensures (run_front is_word_byte c.args.bytes.now))))

pub returns-then-size-gt-LONGEST_NAME-clause-refused : goal.returns-then-size-gt-LONGEST_NAME-clause-refused
returns-then-size-gt-LONGEST_NAME-clause-refused c = refused_limit c.args.bytes.now c.args.line c.limit.result c.limit.ensures
    (beyond c.args.bytes.now (name (take c.word_len-size.result c.args.bytes.now)) c.word_len-size.result
    (word_at c.args.bytes.now c.word_len-size.result (name (take c.word_len-size.result c.args.bytes.now)) c.requires c.word_len-size.ensures
    (λ is. (is, sym c.word_spelled.ensures ∙ c.in_default.is, refl)))
    (λ le. beyond_longest c.args.bytes.now (take c.word_len-size.result c.args.bytes.now) c.word_len-size.result refl
    (omega (arith, c.word_len-size.ensures, prefix_len-le-length is_word_byte c.args.bytes.now)) c.if-size-gt-LONGEST_NAME.true le))
