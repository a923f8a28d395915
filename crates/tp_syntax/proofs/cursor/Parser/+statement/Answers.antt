-- The trees of statements and branches, and one more of them.
use Rattle.std.proofs.Common.{refl, ap, ◌∙◌, arith, ℕ, [], Some}
use Rattle.tp_syntax.specs.Rule.{a_branch, a_statement, statements}
use Rattle.tp_syntax.specs.Reading.{reads_rule, reads_other, reads_else, reads_more, reads_none, fails_rule, fails_this, fails_other, fails_else, fails_here, fails_later}
use Rattle.tp_syntax.specs.Parsing.{enter, leads_rule, leads_this, leads_else, leads_last, leads_more}
use Rattle.tp_syntax.specs.StatementTrees.{branch_frames, branch_of, step_frames, step_of}
use Rattle.tp_syntax.proofs.ReadingGoesOn.{grown, leads_noted, leads_reads, list_ended, list_fails, list_on, list_unended}
use Rattle.tp_syntax.proofs.StepsOfReading.{handed, parsed_ok}
use Rattle.tp_syntax.proofs.cursor.Parser.+statement.Goals as goal

pub statements-returns-in_err-statement-clause-parses : goal.statements-returns-in_err-statement-clause-parses
statements-returns-in_err-statement-clause-parses t c =
    handed c.from_residual.ensures.1 (list_fails a_statement _ c.more.invariant.so_far c.more-test.true c.in_err-statement.ensures.goes.gone)

pub statements-more-preserved : goal.statements-more-preserved
statements-more-preserved t c = record {
  so_far = grown step_of step_frames (enter statements) _ _ _ c.in_ok-push.ensures.ok (list_on a_statement _ c.more.invariant.so_far c.more-test.true)
      c.in_ok-statement.ensures.goes.gone;
  shorter = omega (arith, c.more.invariant.shorter, c.in_ok-statement.ensures.shorter);
}

pub statements-returns-in_err-closing-clause-parses : goal.statements-returns-in_err-closing-clause-parses
statements-returns-in_err-closing-clause-parses t c =
    handed c.from_residual-in_err-closing.ensures.1 (list_unended a_statement _ c.more.invariant.so_far c.more-test.false c.in_err-closing.ensures.parses.parsed)

pub statements-returns-clause-parses : goal.statements-returns-clause-parses
statements-returns-clause-parses t c =
    parsed_ok (list_ended a_statement _ c.more.invariant.so_far c.more-test.false c.in_ok-closing.ensures.parses.parsed)

pub branches-returns-in_err-symbol-clause-parses : goal.branches-returns-in_err-symbol-clause-parses
branches-returns-in_err-symbol-clause-parses t c =
    handed c.from_residual.ensures.1 (list_fails a_branch _ c.more.invariant.so_far c.more-test.true
    (fails_rule (fails_else (fails_here c.in_err-symbol.ensures.parses.parsed))))

pub branches-returns-in_err-otherwise-clause-parses : goal.branches-returns-in_err-otherwise-clause-parses
branches-returns-in_err-otherwise-clause-parses t c =
    handed c.from_residual-in_err-otherwise.ensures.1 (list_fails a_branch _ c.more.invariant.so_far c.more-test.true
    (fails_rule (fails_else (fails_later c.in_ok-symbol.ensures.parses.parsed (fails_here (fails_rule (fails_other (c.is_symbol.ensures ∙ c.if-not-is_symbol.true)
    (fails_else (fails_here c.in_err-otherwise.ensures.parses.parsed)))))))))

pub branches-returns-then-not-is_symbol-clause-parses : goal.branches-returns-then-not-is_symbol-clause-parses
branches-returns-then-not-is_symbol-clause-parses t c =
    parsed_ok (leads_reads (list_on a_branch _ c.more.invariant.so_far c.more-test.true)
    (reads_rule (ap (λ (n : ℕ). Some n) (c.in_ok-otherwise.ensures.line ∙ c.line-line.ensures)) (reads_else (reads_more c.in_ok-symbol.ensures.parses.parsed
    (reads_more (reads_rule refl (reads_other (c.is_symbol.ensures ∙ c.if-not-is_symbol.true) (reads_else
    (reads_more c.in_ok-otherwise.ensures.parses.parsed reads_none)))) reads_none)))))

pub branches-returns-in_err-branch-clause-parses : goal.branches-returns-in_err-branch-clause-parses
branches-returns-in_err-branch-clause-parses t c =
    handed c.from_residual-in_err-branch.ensures.1 (list_fails a_branch _ c.more.invariant.so_far c.more-test.true
    (fails_rule (fails_else (fails_later c.in_ok-symbol.ensures.parses.parsed (fails_here (fails_rule (fails_this (c.is_symbol.ensures ∙ c.if-not-is_symbol.false)
    (fails_here c.in_err-branch.ensures.goes.gone))))))))

pub branches-more-preserved : goal.branches-more-preserved
branches-more-preserved t c = record {
  so_far = grown branch_of branch_frames [] _ _ _ c.in_ok-push.ensures.ok (list_on a_branch _ c.more.invariant.so_far c.more-test.true)
      (leads_noted (c.in_ok-branch.ensures.line ∙ c.line-line.ensures) refl (leads_else (leads_more c.in_ok-symbol.ensures.parses.parsed (leads_last
      (leads_rule refl (leads_this (c.is_symbol.ensures ∙ c.if-not-is_symbol.false) (leads_last c.in_ok-branch.ensures.goes.gone)))))));
  shorter = omega (arith, c.more.invariant.shorter, c.in_ok-symbol.ensures.shorter, c.in_ok-branch.ensures.shorter);
}

pub branches-returns-in_err-closing-clause-parses : goal.branches-returns-in_err-closing-clause-parses
branches-returns-in_err-closing-clause-parses t c =
    handed c.from_residual-in_err-closing.ensures.1 (list_unended a_branch _ c.more.invariant.so_far c.more-test.false c.in_err-closing.ensures.parses.parsed)

pub branches-returns-clause-parses : goal.branches-returns-clause-parses
branches-returns-clause-parses t c =
    parsed_ok (list_ended a_branch _ c.more.invariant.so_far c.more-test.false c.in_ok-closing.ensures.parses.parsed)
