-- What fails in the definitions of a module.
use Rattle.tp_syntax.specs.Reading.{fails_rule, fails_else, fails_here, fails_later}
use Rattle.tp_syntax.proofs.StepsOfReading.{handed}
use Rattle.tp_syntax.proofs.cursor.Parser.module.Goals as goal

pub returns-in_err-definitions-clause-parses : goal.returns-in_err-definitions-clause-parses
returns-in_err-definitions-clause-parses c =
    handed c.from_residual-in_err-definitions.ensures.1 (fails_rule (fails_else (fails_later c.in_ok-word.ensures.parses.parsed
    (fails_later c.in_ok-name.ensures.parses.parsed (fails_later c.in_ok-symbol.ensures.parses.parsed
    (fails_here c.in_err-definitions.ensures.parses.parsed))))))
