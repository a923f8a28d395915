-- A test case.
use Rattle.std.proofs.Common.{refl, ◌∙◌}
use Rattle.tp_syntax.specs.Reading.{reads_rule, reads_other, reads_else}
use Rattle.tp_syntax.proofs.StepsOfReading.{parsed_ok}
use Rattle.tp_syntax.proofs.cursor.Parser.behaviour.Goals as goal

pub returns-clause-parses : goal.returns-clause-parses
returns-clause-parses c =
    parsed_ok (reads_rule refl (reads_other (c.is_word.ensures ∙ c.if-is_word.false) (reads_else c.in_ok-case.ensures.parses.parsed)))
