-- The bytes after a word that tells what became of a message are cut in one way.
use Rattle.std.proofs.Common.{◌≡◌, ◌∷◌, ◌++◌, ◌∙◌, true, ap, sym, arith, subst}
use Rattle.std.specs.Option.{option_copied}
use Rattle.std.proofs.lemmas.Bool.Decides.{nat_tests}
use Rattle.std.proofs.lemmas.Option.{same_Some}
use Rattle.tp_judge.specs.LineTexts.{IsPortName, IsComponentName, contents}
use Rattle.tp_judge.proofs.MessagePartsFromBytes.{port_cut, sender_cut}
use Rattle.tp_judge.proofs.referee.read.passed_of.Goals.{then-not-is_port-via-then-not-is_port}
use Rattle.tp_judge.proofs.referee.read.passed_of.Goals.{then-not-is_port-via-else-not-is_port+then-not-is_word}
use Rattle.tp_judge.proofs.referee.read.passed_of.Goals as goal

pub returns-then-not-is_port : goal.returns-then-not-is_port
returns-then-not-is_port c =
    λ letter is e.
    let k = port_cut letter c.first_word.result.0.now (option_copied c.first_word.result.1) is c.first_word.ensures.word
    (sym c.first_word.ensures.parts ∙ e) in
    let h = same_Some c.in_ok-more.field-0.now (letter.component ++ (32 ∷ contents letter)) (ap option_copied (sym c.in_ok-more.was) ∙ k.1) in
    let d = sender_cut letter c.first_word-2.result.0.now (option_copied c.first_word-2.result.1) is c.first_word-2.ensures.word
    (sym c.first_word-2.ensures.parts ∙ h) in
    elim c.then-not-is_port.branch [
      | then-not-is_port-via-then-not-is_port w ↦
          let t : c.is_port.result ≡ true = c.is_port.ensures.1 (subst IsPortName (sym k.0) is.port) in grind (arith, nat_tests)
      | then-not-is_port-via-else-not-is_port+then-not-is_word w ↦
          let t : w.is_word.result ≡ true = w.is_word.ensures.1 (subst IsComponentName (sym d.0) is.component) in grind (arith, nat_tests)
    ]

pub returns-in_err-number : goal.returns-in_err-number
returns-in_err-number c =
    rw c.from_residual-in_err-number.ensures
    (λ letter is e.
    let k = port_cut letter c.first_word.result.0.now (option_copied c.first_word.result.1) is c.first_word.ensures.word
    (sym c.first_word.ensures.parts ∙ e) in
    let h = same_Some c.in_ok-more.field-0.now (letter.component ++ (32 ∷ contents letter)) (ap option_copied (sym c.in_ok-more.was) ∙ k.1) in
    let d = sender_cut letter c.first_word-2.result.0.now (option_copied c.first_word-2.result.1) is c.first_word-2.ensures.word
    (sym c.first_word-2.ensures.parts ∙ h) in
    c.in_err-number.ensures letter.number letter.text (is.number, is.text) d.1)
