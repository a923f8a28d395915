-- The bytes after `sent` are cut in one way.
use Rattle.std.proofs.Common.{◌≡◌, ◌∙◌, true, ap, sym, arith, subst}
use Rattle.std.specs.Option.{option_copied}
use Rattle.std.proofs.lemmas.Bool.Decides.{nat_tests}
use Rattle.tp_common.specs.Cutting.{lacks}
use Rattle.tp_judge.specs.LineTexts.{IsPortName, IsComponentName}
use Rattle.tp_judge.proofs.UniqueByteCuts.{lacks_none, last_only, undotted}
use Rattle.tp_judge.proofs.MessagePartsFromBytes.{sent_cut}
use Rattle.tp_judge.proofs.referee.read.sent_of.Goals.{then-not-is_word-via-then-not-is_word}
use Rattle.tp_judge.proofs.referee.read.sent_of.Goals.{then-not-is_word-via-else-not-is_word+then-not-is_port}
use Rattle.tp_judge.proofs.referee.read.sent_of.Goals as goal

pub returns-in_err-component : goal.returns-in_err-component
returns-in_err-component c =
    rw c.from_residual.ensures
    (λ letter is e.
    let k = sent_cut letter c.first_word.result.0.now (option_copied c.first_word.result.1) is c.first_word.ensures.word
    (sym c.first_word.ensures.parts ∙ e) in
    lacks_none 46 letter.component letter.port (ap (lacks 46) (sym k.0) ∙ c.in_err-component.ensures))

pub returns-then-not-is_word : goal.returns-then-not-is_word
returns-then-not-is_word c =
    λ letter is e.
    let k = sent_cut letter c.first_word.result.0.now (option_copied c.first_word.result.1) is c.first_word.ensures.word
    (sym c.first_word.ensures.parts ∙ e) in
    let d = last_only c.in_ok-component.component.now c.in_ok-component.port.now letter.component letter.port
    c.in_ok-component.ensures.1 (undotted letter.port is.port.undotted) (sym c.in_ok-component.ensures.0 ∙ k.0) in
    elim c.then-not-is_word.branch [
      | then-not-is_word-via-then-not-is_word w ↦
          let t : c.is_word.result ≡ true = c.is_word.ensures.1 (subst IsComponentName (sym d.0) is.component) in grind (arith, nat_tests)
      | then-not-is_word-via-else-not-is_word+then-not-is_port w ↦
          let t : w.is_port.result ≡ true = w.is_port.ensures.1 (subst IsPortName (sym d.1) is.port) in grind (arith, nat_tests)
    ]

pub returns-in_err-number : goal.returns-in_err-number
returns-in_err-number c =
    rw c.from_residual-in_err-number.ensures
    (λ letter is e.
    let k = sent_cut letter c.first_word.result.0.now (option_copied c.first_word.result.1) is c.first_word.ensures.word
    (sym c.first_word.ensures.parts ∙ e) in
    c.in_err-number.ensures letter.number letter.text (is.number, is.text) k.1)
