-- The head of a `for`, item by item.
use Rattle.std.proofs.Common.{refl, arith}
use Rattle.std.proofs.lemmas.Int.{to_z-of_z}
use Rattle.tp_syntax.specs.Reading.{reads_rule, reads_else, reads_more, reads_none, fails_rule, fails_else, fails_here, fails_later}
use Rattle.tp_syntax.proofs.BoundNames.{bound_read}
use Rattle.tp_syntax.proofs.StepsOfReading.{parsed_as, handed}
use Rattle.tp_syntax.proofs.cursor.Parser.turns.Goals as goal

pub returns-in_err-first-clause-parses : goal.returns-in_err-first-clause-parses
returns-in_err-first-clause-parses c =
    handed c.from_residual-in_err-first.ensures.1 (fails_rule (fails_else (fails_later c.in_ok-symbol.ensures.parses.parsed (fails_later
    c.in_ok-word.ensures.parses.parsed (fails_later c.in_ok-word-2.ensures.parses.parsed (fails_later (bound_read c.in_ok-name.ensures.parses.parsed)
    (fails_later c.in_ok-symbol-2.ensures.parses.parsed (fails_here c.in_err-first.ensures.parses.parsed))))))))

pub returns-in_err-symbol-3-clause-parses : goal.returns-in_err-symbol-3-clause-parses
returns-in_err-symbol-3-clause-parses c =
    handed c.from_residual-in_err-symbol-3.ensures.1 (fails_rule (fails_else (fails_later c.in_ok-symbol.ensures.parses.parsed (fails_later
    c.in_ok-word.ensures.parses.parsed (fails_later c.in_ok-word-2.ensures.parses.parsed (fails_later (bound_read c.in_ok-name.ensures.parses.parsed)
    (fails_later c.in_ok-symbol-2.ensures.parses.parsed (fails_later c.in_ok-first.ensures.parses.parsed (fails_here
    c.in_err-symbol-3.ensures.parses.parsed)))))))))

pub returns-in_err-same_name-clause-parses : goal.returns-in_err-same_name-clause-parses
returns-in_err-same_name-clause-parses c =
    handed c.from_residual-in_err-same_name.ensures.1 (fails_rule (fails_else (fails_later c.in_ok-symbol.ensures.parses.parsed (fails_later
    c.in_ok-word.ensures.parses.parsed (fails_later c.in_ok-word-2.ensures.parses.parsed (fails_later (bound_read c.in_ok-name.ensures.parses.parsed)
    (fails_later c.in_ok-symbol-2.ensures.parses.parsed (fails_later c.in_ok-first.ensures.parses.parsed (fails_later
    c.in_ok-symbol-3.ensures.parses.parsed (fails_here c.in_err-same_name.ensures.parses.parsed))))))))))

pub returns-in_err-symbol-4-clause-parses : goal.returns-in_err-symbol-4-clause-parses
returns-in_err-symbol-4-clause-parses c =
    handed c.from_residual-in_err-symbol-4.ensures.1 (fails_rule (fails_else (fails_later c.in_ok-symbol.ensures.parses.parsed (fails_later
    c.in_ok-word.ensures.parses.parsed (fails_later c.in_ok-word-2.ensures.parses.parsed (fails_later (bound_read c.in_ok-name.ensures.parses.parsed)
    (fails_later c.in_ok-symbol-2.ensures.parses.parsed (fails_later c.in_ok-first.ensures.parses.parsed (fails_later
    c.in_ok-symbol-3.ensures.parses.parsed (fails_later c.in_ok-same_name.ensures.parses.parsed (fails_here
    c.in_err-symbol-4.ensures.parses.parsed)))))))))))

pub returns-in_err-bound-clause-parses : goal.returns-in_err-bound-clause-parses
returns-in_err-bound-clause-parses c =
    handed c.from_residual-in_err-bound.ensures.1 (fails_rule (fails_else (fails_later c.in_ok-symbol.ensures.parses.parsed (fails_later
    c.in_ok-word.ensures.parses.parsed (fails_later c.in_ok-word-2.ensures.parses.parsed (fails_later (bound_read c.in_ok-name.ensures.parses.parsed)
    (fails_later c.in_ok-symbol-2.ensures.parses.parsed (fails_later c.in_ok-first.ensures.parses.parsed (fails_later
    c.in_ok-symbol-3.ensures.parses.parsed (fails_later c.in_ok-same_name.ensures.parses.parsed (fails_later c.in_ok-symbol-4.ensures.parses.parsed
    (fails_here c.in_err-bound.ensures.parses.parsed))))))))))))

pub returns-in_err-symbol-5-clause-parses : goal.returns-in_err-symbol-5-clause-parses
returns-in_err-symbol-5-clause-parses c =
    handed c.from_residual-in_err-symbol-5.ensures.1 (fails_rule (fails_else (fails_later c.in_ok-symbol.ensures.parses.parsed (fails_later
    c.in_ok-word.ensures.parses.parsed (fails_later c.in_ok-word-2.ensures.parses.parsed (fails_later (bound_read c.in_ok-name.ensures.parses.parsed)
    (fails_later c.in_ok-symbol-2.ensures.parses.parsed (fails_later c.in_ok-first.ensures.parses.parsed (fails_later
    c.in_ok-symbol-3.ensures.parses.parsed (fails_later c.in_ok-same_name.ensures.parses.parsed (fails_later c.in_ok-symbol-4.ensures.parses.parsed
    (fails_later c.in_ok-bound.ensures.parses.parsed (fails_here c.in_err-symbol-5.ensures.parses.parsed)))))))))))))

pub returns-in_err-same_name-2-clause-parses : goal.returns-in_err-same_name-2-clause-parses
returns-in_err-same_name-2-clause-parses c =
    handed c.from_residual-in_err-same_name-2.ensures.1 (fails_rule (fails_else (fails_later c.in_ok-symbol.ensures.parses.parsed (fails_later
    c.in_ok-word.ensures.parses.parsed (fails_later c.in_ok-word-2.ensures.parses.parsed (fails_later (bound_read c.in_ok-name.ensures.parses.parsed)
    (fails_later c.in_ok-symbol-2.ensures.parses.parsed (fails_later c.in_ok-first.ensures.parses.parsed (fails_later
    c.in_ok-symbol-3.ensures.parses.parsed (fails_later c.in_ok-same_name.ensures.parses.parsed (fails_later c.in_ok-symbol-4.ensures.parses.parsed
    (fails_later c.in_ok-bound.ensures.parses.parsed (fails_later c.in_ok-symbol-5.ensures.parses.parsed (fails_here
    c.in_err-same_name-2.ensures.parses.parsed))))))))))))))

pub returns-in_err-symbol-6-clause-parses : goal.returns-in_err-symbol-6-clause-parses
returns-in_err-symbol-6-clause-parses c =
    handed c.from_residual-in_err-symbol-6.ensures.1 (fails_rule (fails_else (fails_later c.in_ok-symbol.ensures.parses.parsed (fails_later
    c.in_ok-word.ensures.parses.parsed (fails_later c.in_ok-word-2.ensures.parses.parsed (fails_later (bound_read c.in_ok-name.ensures.parses.parsed)
    (fails_later c.in_ok-symbol-2.ensures.parses.parsed (fails_later c.in_ok-first.ensures.parses.parsed (fails_later
    c.in_ok-symbol-3.ensures.parses.parsed (fails_later c.in_ok-same_name.ensures.parses.parsed (fails_later c.in_ok-symbol-4.ensures.parses.parsed
    (fails_later c.in_ok-bound.ensures.parses.parsed (fails_later c.in_ok-symbol-5.ensures.parses.parsed (fails_later
    c.in_ok-same_name-2.ensures.parses.parsed (fails_here c.in_err-symbol-6.ensures.parses.parsed)))))))))))))))

pub returns-in_err-same_name-3-clause-parses : goal.returns-in_err-same_name-3-clause-parses
returns-in_err-same_name-3-clause-parses c =
    handed c.from_residual-in_err-same_name-3.ensures.1 (fails_rule (fails_else (fails_later c.in_ok-symbol.ensures.parses.parsed (fails_later
    c.in_ok-word.ensures.parses.parsed (fails_later c.in_ok-word-2.ensures.parses.parsed (fails_later (bound_read c.in_ok-name.ensures.parses.parsed)
    (fails_later c.in_ok-symbol-2.ensures.parses.parsed (fails_later c.in_ok-first.ensures.parses.parsed (fails_later
    c.in_ok-symbol-3.ensures.parses.parsed (fails_later c.in_ok-same_name.ensures.parses.parsed (fails_later c.in_ok-symbol-4.ensures.parses.parsed
    (fails_later c.in_ok-bound.ensures.parses.parsed (fails_later c.in_ok-symbol-5.ensures.parses.parsed (fails_later
    c.in_ok-same_name-2.ensures.parses.parsed (fails_later c.in_ok-symbol-6.ensures.parses.parsed (fails_here
    c.in_err-same_name-3.ensures.parses.parsed))))))))))))))))

pub returns-in_err-symbol-7-clause-parses : goal.returns-in_err-symbol-7-clause-parses
returns-in_err-symbol-7-clause-parses c =
    handed c.from_residual-in_err-symbol-7.ensures.1 (fails_rule (fails_else (fails_later c.in_ok-symbol.ensures.parses.parsed (fails_later
    c.in_ok-word.ensures.parses.parsed (fails_later c.in_ok-word-2.ensures.parses.parsed (fails_later (bound_read c.in_ok-name.ensures.parses.parsed)
    (fails_later c.in_ok-symbol-2.ensures.parses.parsed (fails_later c.in_ok-first.ensures.parses.parsed (fails_later
    c.in_ok-symbol-3.ensures.parses.parsed (fails_later c.in_ok-same_name.ensures.parses.parsed (fails_later c.in_ok-symbol-4.ensures.parses.parsed
    (fails_later c.in_ok-bound.ensures.parses.parsed (fails_later c.in_ok-symbol-5.ensures.parses.parsed (fails_later
    c.in_ok-same_name-2.ensures.parses.parsed (fails_later c.in_ok-symbol-6.ensures.parses.parsed (fails_later
    c.in_ok-same_name-3.ensures.parses.parsed (fails_here c.in_err-symbol-7.ensures.parses.parsed)))))))))))))))))

pub returns-in_err-number_one-clause-parses : goal.returns-in_err-number_one-clause-parses
returns-in_err-number_one-clause-parses c =
    handed c.from_residual-in_err-number_one.ensures.1 (fails_rule (fails_else (fails_later c.in_ok-symbol.ensures.parses.parsed (fails_later
    c.in_ok-word.ensures.parses.parsed (fails_later c.in_ok-word-2.ensures.parses.parsed (fails_later (bound_read c.in_ok-name.ensures.parses.parsed)
    (fails_later c.in_ok-symbol-2.ensures.parses.parsed (fails_later c.in_ok-first.ensures.parses.parsed (fails_later
    c.in_ok-symbol-3.ensures.parses.parsed (fails_later c.in_ok-same_name.ensures.parses.parsed (fails_later c.in_ok-symbol-4.ensures.parses.parsed
    (fails_later c.in_ok-bound.ensures.parses.parsed (fails_later c.in_ok-symbol-5.ensures.parses.parsed (fails_later
    c.in_ok-same_name-2.ensures.parses.parsed (fails_later c.in_ok-symbol-6.ensures.parses.parsed (fails_later
    c.in_ok-same_name-3.ensures.parses.parsed (fails_later c.in_ok-symbol-7.ensures.parses.parsed (fails_here
    c.in_err-number_one.ensures.parses.parsed))))))))))))))))))

pub returns-in_err-symbol-8-clause-parses : goal.returns-in_err-symbol-8-clause-parses
returns-in_err-symbol-8-clause-parses c =
    handed c.from_residual-in_err-symbol-8.ensures.1 (fails_rule (fails_else (fails_later c.in_ok-symbol.ensures.parses.parsed (fails_later
    c.in_ok-word.ensures.parses.parsed (fails_later c.in_ok-word-2.ensures.parses.parsed (fails_later (bound_read c.in_ok-name.ensures.parses.parsed)
    (fails_later c.in_ok-symbol-2.ensures.parses.parsed (fails_later c.in_ok-first.ensures.parses.parsed (fails_later
    c.in_ok-symbol-3.ensures.parses.parsed (fails_later c.in_ok-same_name.ensures.parses.parsed (fails_later c.in_ok-symbol-4.ensures.parses.parsed
    (fails_later c.in_ok-bound.ensures.parses.parsed (fails_later c.in_ok-symbol-5.ensures.parses.parsed (fails_later
    c.in_ok-same_name-2.ensures.parses.parsed (fails_later c.in_ok-symbol-6.ensures.parses.parsed (fails_later
    c.in_ok-same_name-3.ensures.parses.parsed (fails_later c.in_ok-symbol-7.ensures.parses.parsed (fails_later
    c.in_ok-number_one.ensures.parses.parsed (fails_here c.in_err-symbol-8.ensures.parses.parsed)))))))))))))))))))

pub returns-clause-parses : goal.returns-clause-parses
returns-clause-parses c =
    parsed_as (grind (arith, to_z-of_z)) (reads_rule refl (reads_else (reads_more c.in_ok-symbol.ensures.parses.parsed (reads_more
    c.in_ok-word.ensures.parses.parsed (reads_more c.in_ok-word-2.ensures.parses.parsed (reads_more (bound_read c.in_ok-name.ensures.parses.parsed)
    (reads_more c.in_ok-symbol-2.ensures.parses.parsed (reads_more c.in_ok-first.ensures.parses.parsed (reads_more
    c.in_ok-symbol-3.ensures.parses.parsed (reads_more c.in_ok-same_name.ensures.parses.parsed (reads_more c.in_ok-symbol-4.ensures.parses.parsed
    (reads_more c.in_ok-bound.ensures.parses.parsed (reads_more c.in_ok-symbol-5.ensures.parses.parsed (reads_more
    c.in_ok-same_name-2.ensures.parses.parsed (reads_more c.in_ok-symbol-6.ensures.parses.parsed (reads_more c.in_ok-same_name-3.ensures.parses.parsed
    (reads_more c.in_ok-symbol-7.ensures.parses.parsed (reads_more c.in_ok-number_one.ensures.parses.parsed (reads_more
    c.in_ok-symbol-8.ensures.parses.parsed reads_none)))))))))))))))))))
