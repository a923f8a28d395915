-- The first word ends at the first space, and is the whole line where there is none.
use Rattle.std.proofs.Common.{sym, ◌∙◌}
use Rattle.tp_common.proofs.FirstWordOfLine.{whole_lacks, word_at, word_lacks, word_parts, word_whole}
use Rattle.tp_common.proofs.cut.first_word.Goals as goal

pub returns-in-Some-clause-words : goal.returns-in-Some-clause-words
returns-in-Some-clause-words c = word_at _ _ (sym c.find_byte.ensures ∙ c.in-Some.is)

pub returns-in-None-clause-words : goal.returns-in-None-clause-words
returns-in-None-clause-words c = word_whole _ (sym c.find_byte.ensures ∙ c.in-None.is)

pub returns-in-Some-clause-parts : goal.returns-in-Some-clause-parts
returns-in-Some-clause-parts c = word_parts _ _ (sym c.find_byte.ensures ∙ c.in-Some.is)

pub returns-in-Some-clause-word : goal.returns-in-Some-clause-word
returns-in-Some-clause-word c = word_lacks _ _ (sym c.find_byte.ensures ∙ c.in-Some.is)

pub returns-in-None-clause-word : goal.returns-in-None-clause-word
returns-in-None-clause-word c = whole_lacks c.args.line.now (sym c.find_byte.ensures ∙ c.in-None.is)
