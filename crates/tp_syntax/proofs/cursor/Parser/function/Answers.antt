-- A function, item by item.
use Rattle.tp_syntax.specs.Reading.{reads_more, reads_none, fails_here, fails_later}
use Rattle.tp_syntax.proofs.ReadingGoesOn.{all_ok, all_handed}
use Rattle.tp_syntax.proofs.cursor.Parser.function.Goals as goal

pub returns-in_err-word-3-clause-parses : goal.returns-in_err-word-3-clause-parses
returns-in_err-word-3-clause-parses c =
    all_handed c.from_residual-in_err-word-3.ensures.1 (fails_later c.in_ok-word.ensures.parses.parsed (fails_later c.in_ok-name.ensures.parses.parsed
    (fails_later c.in_ok-symbol.ensures.parses.parsed (fails_later c.in_ok-parameters.ensures.parses.parsed (fails_later
    c.in_ok-word-2.ensures.parses.parsed (fails_here c.in_err-word-3.ensures.parses.parsed))))))

pub returns-in_err-runs_on-clause-parses : goal.returns-in_err-runs_on-clause-parses
returns-in_err-runs_on-clause-parses c =
    all_handed c.from_residual-in_err-runs_on.ensures.1 (fails_later c.in_ok-word.ensures.parses.parsed (fails_later c.in_ok-name.ensures.parses.parsed
    (fails_later c.in_ok-symbol.ensures.parses.parsed (fails_later c.in_ok-parameters.ensures.parses.parsed (fails_later
    c.in_ok-word-2.ensures.parses.parsed (fails_later c.in_ok-word-3.ensures.parses.parsed (fails_here c.in_err-runs_on.ensures.parses.parsed)))))))

pub returns-in_err-symbol-2-clause-parses : goal.returns-in_err-symbol-2-clause-parses
returns-in_err-symbol-2-clause-parses c =
    all_handed c.from_residual-in_err-symbol-2.ensures.1 (fails_later c.in_ok-word.ensures.parses.parsed (fails_later
    c.in_ok-name.ensures.parses.parsed (fails_later c.in_ok-symbol.ensures.parses.parsed (fails_later c.in_ok-parameters.ensures.parses.parsed
    (fails_later c.in_ok-word-2.ensures.parses.parsed (fails_later c.in_ok-word-3.ensures.parses.parsed (fails_later
    c.in_ok-runs_on.ensures.parses.parsed (fails_here c.in_err-symbol-2.ensures.parses.parsed))))))))

pub returns-in_err-variables-clause-parses : goal.returns-in_err-variables-clause-parses
returns-in_err-variables-clause-parses c =
    all_handed c.from_residual-in_err-variables.ensures.1 (fails_later c.in_ok-word.ensures.parses.parsed (fails_later
    c.in_ok-name.ensures.parses.parsed (fails_later c.in_ok-symbol.ensures.parses.parsed (fails_later c.in_ok-parameters.ensures.parses.parsed
    (fails_later c.in_ok-word-2.ensures.parses.parsed (fails_later c.in_ok-word-3.ensures.parses.parsed (fails_later
    c.in_ok-runs_on.ensures.parses.parsed (fails_later c.in_ok-symbol-2.ensures.parses.parsed (fails_here
    c.in_err-variables.ensures.parses.parsed)))))))))

pub returns-clause-parses : goal.returns-clause-parses
returns-clause-parses c =
    all_ok (reads_more c.in_ok-word.ensures.parses.parsed (reads_more c.in_ok-name.ensures.parses.parsed (reads_more
    c.in_ok-symbol.ensures.parses.parsed (reads_more c.in_ok-parameters.ensures.parses.parsed (reads_more c.in_ok-word-2.ensures.parses.parsed
    (reads_more c.in_ok-word-3.ensures.parses.parsed (reads_more c.in_ok-runs_on.ensures.parses.parsed (reads_more
    c.in_ok-symbol-2.ensures.parses.parsed (reads_more c.in_ok-variables.ensures.parses.parsed reads_none)))))))))
