-- What is sent, item by item.
use Rattle.std.proofs.Common.{refl, ◌∙◌}
use Rattle.tp_syntax.specs.Reading.{reads_rule, reads_this, reads_other, reads_else, reads_more, reads_none}
use Rattle.tp_syntax.proofs.StepsOfReading.{parsed_ok}
use Rattle.tp_syntax.proofs.cursor.Parser.sent.Goals as goal

pub returns-then-is_symbol-clause-parses : goal.returns-then-is_symbol-clause-parses
returns-then-is_symbol-clause-parses c =
    parsed_ok (reads_rule refl (reads_this (c.is_name.ensures ∙ c.if-is_name.true) (reads_more c.in_ok-name.ensures.parses.parsed (reads_more
    (reads_rule refl (reads_this (c.is_symbol.ensures ∙ c.if-is_symbol.true) (reads_more c.pass_symbol.ensures.read (reads_more
    c.in_ok-value.ensures.parses.parsed reads_none)))) reads_none))))

pub returns-then-is_name-clause-parses : goal.returns-then-is_name-clause-parses
returns-then-is_name-clause-parses c =
    parsed_ok (reads_rule refl (reads_this (c.is_name.ensures ∙ c.if-is_name.true) (reads_more c.in_ok-name.ensures.parses.parsed (reads_more
    (reads_rule refl (reads_other (c.is_symbol.ensures ∙ c.if-is_symbol.false) (reads_else reads_none))) reads_none))))
