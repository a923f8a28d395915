-- One more variable, and the statements after the last one.
use Rattle.std.proofs.Common.{Bool, List, [], refl, ap, ap₂, map, sym, ◌∙◌, arith}
use Rattle.tp_tree.specs.declared.tree.Statement.{Statement}
use Rattle.tp_syntax.specs.Rule.{variables}
use Rattle.tp_syntax.specs.Reading.{reads_rule, reads_other, reads_else, reads_more, reads_none, fails_rule, fails_other, fails_else, fails_here}
use Rattle.tp_syntax.specs.DefinitionTrees.{behind_variables, local_frames}
use Rattle.tp_syntax.specs.CaseTrees.{variable_part}
use Rattle.tp_syntax.specs.Parsing.{all_frames, under}
use Rattle.tp_syntax.proofs.BehaviourViews.{open_grown}
use Rattle.tp_syntax.proofs.ReadingGoesOn.{grown, leads_reads, list_ended, list_fails, list_on, list_unended}
use Rattle.tp_syntax.proofs.StepsOfReading.{handed, parsed_as}
use Rattle.tp_syntax.proofs.cursor.Parser.function_body.Goals as goal

pub returns-in_err-statements-clause-parses : goal.returns-in_err-statements-clause-parses
returns-in_err-statements-clause-parses c =
    handed c.from_residual.ensures.1 (list_fails variables _ c.more.invariant.so_far c.more-test.true
    (fails_rule (fails_other (c.is_word.ensures ∙ c.if-not-is_word.true) (fails_else (fails_here c.in_err-statements.ensures.parses.parsed)))))

pub returns-then-not-is_word-clause-parses : goal.returns-then-not-is_word-clause-parses
returns-then-not-is_word-clause-parses c =
    parsed_as (ap (λ (b : Bool). under (all_frames local_frames (map variable_part c.more.variables)) (behind_variables b c.in_ok-statements.statements)) (sym c.more.invariant.at ∙ c.more-test.true))
    (leads_reads (list_on variables _ c.more.invariant.so_far c.more-test.true)
    (reads_rule refl (reads_other (c.is_word.ensures ∙ c.if-not-is_word.true) (reads_else (reads_more c.in_ok-statements.ensures.parses.parsed reads_none)))))

pub returns-in_err-variable-clause-parses : goal.returns-in_err-variable-clause-parses
returns-in_err-variable-clause-parses c =
    handed c.from_residual-in_err-variable.ensures.1 (list_fails variables _ c.more.invariant.so_far c.more-test.true c.in_err-variable.ensures.goes.gone)

pub more-preserved : goal.more-preserved
more-preserved c = record {
  so_far = grown variable_part local_frames [] _ _ _ c.in_ok-push.ensures.ok (list_on variables _ c.more.invariant.so_far c.more-test.true)
      c.in_ok-variable.ensures.goes.gone;
  at = open_grown _ _ _ _ c.in_ok-push.ensures.ok;
  shorter = omega (arith, c.more.invariant.shorter, c.in_ok-variable.ensures.shorter);
}

pub returns-in_err-closing-clause-parses : goal.returns-in_err-closing-clause-parses
returns-in_err-closing-clause-parses c =
    handed c.from_residual-in_err-closing.ensures.1 (list_unended variables _ c.more.invariant.so_far c.more-test.false c.in_err-closing.ensures.parses.parsed)

pub returns-clause-parses : goal.returns-clause-parses
returns-clause-parses c =
    let body = λ (b : Bool) (ss : List Statement). under (all_frames local_frames (map variable_part c.more.variables)) (behind_variables b ss) in
    parsed_as (ap₂ body (sym c.more.invariant.at ∙ c.more-test.false) c.new-statements.ensures)
    (list_ended variables _ c.more.invariant.so_far c.more-test.false c.in_ok-closing.ensures.parses.parsed)
