-- Where a space follows the first word, there are two words or more.
use Rattle.std.proofs.Common.{◌∙◌, ap, sym, ◌∷◌}
use Rattle.std.specs.Option.{option_copied}
use Rattle.tp_common.specs.Cutting.{words_after}
use Rattle.tp_port.proofs.SplitTextHasWords.{more_words}
use Rattle.tp_port.proofs.command.only_word.Goals as goal

pub returns-in-Some : goal.returns-in-Some
returns-in-Some c =
    λ word is. more_words c.in-Some.field-0.now c.first_word.result.0.now word _
    (c.first_word.ensures.words ∙ ap (λ o. c.first_word.result.0.now ∷ words_after (option_copied o)) c.in-Some.is)
    (ap (λ o. words_after (option_copied o)) (sym c.in_ok-words.was) ∙ is)
