-- A redirect, item by item.
use Rattle.std.proofs.Common.{refl, ◌∙◌}
use Rattle.tp_syntax.specs.Reading.{reads_rule, reads_this, reads_other, reads_else, reads_more, reads_none}
use Rattle.tp_syntax.proofs.StepsOfReading.{parsed_ok}
use Rattle.tp_syntax.proofs.cursor.Parser.redirect.Goals as goal

pub returns-then-is_word-clause-parses : goal.returns-then-is_word-clause-parses
returns-then-is_word-clause-parses c =
    parsed_ok (reads_rule refl (reads_this (c.is_symbol.ensures ∙ c.if-not-is_symbol.false) (reads_more c.pass_symbol.ensures.read (reads_more
    (reads_rule refl (reads_this (c.is_word.ensures ∙ c.if-is_word.true) (reads_more c.pass_word.ensures.read (reads_more
    c.in_ok-value.ensures.parses.parsed (reads_more c.in_ok-sender.ensures.parses.parsed reads_none))))) reads_none))))

pub returns-clause-parses : goal.returns-clause-parses
returns-clause-parses c =
    parsed_ok (reads_rule refl (reads_this (c.is_symbol.ensures ∙ c.if-not-is_symbol.false) (reads_more c.pass_symbol.ensures.read (reads_more
    (reads_rule refl (reads_other (c.is_word.ensures ∙ c.if-is_word.false) (reads_else (reads_more c.in_ok-word.ensures.parses.parsed (reads_more
    c.in_ok-sender-2.ensures.parses.parsed reads_none))))) reads_none))))
