-- The bytes of a number and a text are cut in one way.
use Rattle.std.proofs.Common.{◌≡◌, ◌∙◌, ap, sym, arith, length}
use Rattle.std.specs.Option.{option_copied}
use Rattle.std.proofs.lemmas.Option.{same_Some}
use Rattle.std.proofs.lemmas.Bool.Decides.{nat_tests}
use Rattle.tp_judge.specs.Read.{contents_text}
use Rattle.tp_judge.proofs.MessagePartsFromBytes.{contents_cut}
use Rattle.tp_judge.proofs.referee.read.contents_of.Goals as goal

pub returns-in_err-number : goal.returns-in_err-number
returns-in_err-number c =
    rw c.from_residual-in_err-number.ensures
    (λ n text is e.
    let h = same_Some c.in_ok-rest.field-0.now (contents_text n text) (ap option_copied (sym c.in_ok-rest.was) ∙ e) in
    let k = contents_cut n text c.first_word.result.0.now (option_copied c.first_word.result.1) is.0 c.first_word.ensures.word
    (sym c.first_word.ensures.parts ∙ h) in
    c.in_err-number.ensures n is.0 k.0)

pub returns-then-is_empty : goal.returns-then-is_empty
returns-then-is_empty c =
    λ n text is e.
    let h = same_Some c.in_ok-rest.field-0.now (contents_text n text) (ap option_copied (sym c.in_ok-rest.was) ∙ e) in
    let k = contents_cut n text c.first_word.result.0.now (option_copied c.first_word.result.1) is.0 c.first_word.ensures.word
    (sym c.first_word.ensures.parts ∙ h) in
    let t = same_Some c.in_ok-text.text.now text (ap option_copied (sym c.in_ok-text.was) ∙ k.1) in
    let none : length c.in_ok-text.text.now ≡ 0 = grind (arith, nat_tests) in
    omega (arith, ap length t, is.1)
