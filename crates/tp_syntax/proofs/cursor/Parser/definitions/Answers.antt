-- One more definition.
use Rattle.std.proofs.Common.{List, arith}
use Rattle.tp_syntax.specs.Rule.{a_definition, definitions}
use Rattle.tp_syntax.specs.DefinitionTrees.{definition_frames}
use Rattle.tp_syntax.specs.Parsing.{Frame, enter}
use Rattle.tp_syntax.proofs.ReadingGoesOn.{grown, list_ended, list_fails, list_on, list_unended}
use Rattle.tp_syntax.proofs.StepsOfReading.{handed, parsed_ok}
use Rattle.tp_syntax.proofs.cursor.Parser.definitions.Goals as goal

pub returns-in_err-definition-clause-parses : goal.returns-in_err-definition-clause-parses
returns-in_err-definition-clause-parses c =
    handed c.from_residual.ensures.1 (list_fails a_definition _ c.more.invariant.so_far c.more-test.true c.in_err-definition.ensures.goes.gone)

pub more-preserved : goal.more-preserved
more-preserved c = record {
  so_far = grown definition_frames (λ (fs : List Frame). fs) (enter definitions) _ _ _ c.in_ok-push.ensures.ok (list_on a_definition _ c.more.invariant.so_far c.more-test.true)
      c.in_ok-definition.ensures.goes.gone;
  shorter = omega (arith, c.more.invariant.shorter, c.in_ok-definition.ensures.shorter);
}

pub returns-in_err-closing-clause-parses : goal.returns-in_err-closing-clause-parses
returns-in_err-closing-clause-parses c =
    handed c.from_residual-in_err-closing.ensures.1 (list_unended a_definition _ c.more.invariant.so_far c.more-test.false c.in_err-closing.ensures.parses.parsed)

pub returns-clause-parses : goal.returns-clause-parses
returns-clause-parses c = parsed_ok (list_ended a_definition _ c.more.invariant.so_far c.more-test.false c.in_ok-closing.ensures.parses.parsed)
