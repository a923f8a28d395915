-- The decimal form of an integer is ASCII, and is read as that integer; and what is read and begins as one is one.
use Rattle.std.proofs.Common.{◌∙◌, ap, sym, subst, List, ℕ}
use Rattle.std.specs.Str.{IsUtf8}
use Rattle.std.proofs.lemmas.Str.{IsUtf8-from_ascii}
use Rattle.std.specs.Result.{result_ok}
use Rattle.tp_port.proofs.IntegerTextRoundTrip.{IsAscii-integer, parse_integer, decimal_read}
use Rattle.tp_port.proofs.command.parse_integer.Goals as goal

pub returns-in_err-text-clause-every : goal.returns-in_err-text-clause-every
returns-in_err-text-clause-every c =
    λ n fits is. absurd (c.in_err-text.ensures (subst (λ (l : List ℕ). IsUtf8 l) (sym is) (IsUtf8-from_ascii _ (IsAscii-integer n fits))))

pub returns-clause-every : goal.returns-clause-every
returns-clause-every c =
    λ n fits is. c.ok.ensures.value ∙ ap result_ok (parse_integer n _ _ fits (c.in_ok-text.ensures ∙ is) c.parse.ensures.value.0)

pub returns-clause-decimal : goal.returns-clause-decimal
returns-clause-decimal c = decimal_read _ _ _ _ c.in_ok-text.ensures c.ok.ensures.value c.parse.ensures.value.0
