-- Two places, item by item.
use Rattle.std.proofs.Common.{refl}
use Rattle.tp_syntax.specs.Reading.{reads_rule, reads_else, reads_more, reads_none}
use Rattle.tp_syntax.proofs.StepsOfReading.{parsed_ok}
use Rattle.tp_syntax.proofs.cursor.Parser.pair.Goals as goal

pub returns-clause-parses : goal.returns-clause-parses
returns-clause-parses c =
    parsed_ok (reads_rule refl (reads_else (reads_more c.in_ok-symbol.ensures.parses.parsed (reads_more c.in_ok-first.ensures.parses.parsed
    (reads_more c.in_ok-symbol-2.ensures.parses.parsed (reads_more c.in_ok-second.ensures.parses.parsed (reads_more
    c.in_ok-symbol-3.ensures.parses.parsed reads_none)))))))
