-- The decimal form of a number is ASCII, and is read as that number.
use Rattle.std.proofs.Common.{◌∙◌, ap, sym, subst, List, ℕ, arith}
use Rattle.std.specs.Str.{IsUtf8}
use Rattle.std.specs.Result.{result_ok}
use Rattle.std.proofs.lemmas.Fmt.{IsAscii-decimal, parse-decimal}
use Rattle.std.proofs.lemmas.Str.{IsUtf8-from_ascii}
use Rattle.tp_judge.proofs.referee.read.parse_number.Goals as goal

pub returns-in_err-text : goal.returns-in_err-text
returns-in_err-text c =
    λ n below is. absurd (c.in_err-text.ensures (subst (λ (l : List ℕ). IsUtf8 l) (sym is) (IsUtf8-from_ascii _ (IsAscii-decimal n (omega (arith, below))))))

pub returns : goal.returns
returns c =
    λ n below is. c.ok.ensures.value
    ∙ ap result_ok (parse-decimal 64 n _ _ (omega (arith, below)) (omega (arith, below)) (c.in_ok-text.ensures ∙ is) c.parse.ensures.value.0)
