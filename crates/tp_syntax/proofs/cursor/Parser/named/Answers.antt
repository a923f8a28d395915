-- An operation on a port, item by item.
use Rattle.std.proofs.Common.{refl, ◌∙◌}
use Rattle.tp_syntax.specs.Reading.{reads_rule, reads_this, reads_other, reads_else, reads_more, reads_none}
use Rattle.tp_syntax.proofs.StepsOfReading.{parsed_ok}
use Rattle.tp_syntax.proofs.cursor.Parser.named.Goals as goal

pub returns-then-is_word-clause-parses : goal.returns-then-is_word-clause-parses
returns-then-is_word-clause-parses c =
    parsed_ok (reads_rule refl (reads_else (reads_more c.in_ok-port.ensures.parses.parsed (reads_more c.in_ok-symbol.ensures.parses.parsed (reads_more
    (reads_rule refl (reads_this (c.is_word.ensures ∙ c.if-is_word.true) (reads_more c.pass_word.ensures.read reads_none))) reads_none)))))

pub returns-clause-parses : goal.returns-clause-parses
returns-clause-parses c =
    parsed_ok (reads_rule refl (reads_else (reads_more c.in_ok-port.ensures.parses.parsed (reads_more c.in_ok-symbol.ensures.parses.parsed (reads_more
    (reads_rule refl (reads_other (c.is_word.ensures ∙ c.if-is_word.false) (reads_else (reads_more c.in_ok-operation.ensures.parses.parsed
    reads_none)))) reads_none)))))
