-- A line's first word is that of one verb at most.
use Rattle.std.proofs.Common.{◌∙◌, sym}
use Rattle.std.specs.Option.{option_copied}
use Rattle.tp_judge.specs.LineTexts.{operands, verb_of, verb_text}
use Rattle.tp_judge.proofs.UniqueByteCuts.{first_only}
use Rattle.tp_judge.proofs.UniqueLineMeanings.{lacks-verb}
use Rattle.tp_judge.proofs.referee.read.trace_line.Goals as goal

pub returns-in_err-verb : goal.returns-in_err-verb
returns-in_err-verb c =
    rw c.from_residual.ensures
    (λ told is. c.in_err-verb.ensures (verb_of told)
    (first_only c.first_word.result.0.now (verb_text (verb_of told)) (option_copied c.first_word.result.1) (operands told)
    c.first_word.ensures.word (lacks-verb (verb_of told)) (sym c.first_word.ensures.parts ∙ is.0)).0)
