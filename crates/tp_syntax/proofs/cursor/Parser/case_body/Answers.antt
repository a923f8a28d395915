-- One more part of a test case's body.
use Rattle.std.proofs.Common.{arith}
use Rattle.tp_syntax.specs.CaseTrees.{kind_of, part}
use Rattle.tp_syntax.proofs.CaseViews.{case_grown, fits_grown, stage_grown}
use Rattle.tp_syntax.proofs.ReadingGoesOn.{list_ended, list_fails, list_on, list_unended}
use Rattle.tp_syntax.proofs.StepsOfReading.{handed, parsed_ok}
use Rattle.tp_syntax.proofs.cursor.Parser.case_body.Goals as goal

pub returns-in_err-part-clause-parses : goal.returns-in_err-part-clause-parses
returns-in_err-part-clause-parses c =
    handed c.from_residual.ensures.1 (list_fails _ _ c.more.invariant.so_far c.more-test.true c.in_err-part.ensures.goes.gone)

pub more-preserved : goal.more-preserved
more-preserved c = record {
  so_far = case_grown _ _ (part c.line-line.result (kind_of c.in_ok-part.part.action) c.in_ok-part.part.end.has_semicolon) _ _ c.in_ok-keep.ensures.kept
      c.more.invariant.at c.stage-stage.ensures c.line-line.ensures (list_on _ _ c.more.invariant.so_far c.more-test.true) c.in_ok-part.ensures.goes.gone;
  at = stage_grown _ _ _ c.in_ok-keep.ensures.kept c.stage-stage.ensures;
  fits = fits_grown _ _ c.stage-stage.ensures c.in_ok-part.ensures.over c.in_ok-keep.ensures.fits;
  shorter = omega (arith, c.more.invariant.shorter, c.in_ok-part.ensures.shorter);
}

pub returns-in_err-closing-clause-parses : goal.returns-in_err-closing-clause-parses
returns-in_err-closing-clause-parses c =
    handed c.from_residual-in_err-closing.ensures.1 (list_unended _ _ c.more.invariant.so_far c.more-test.false c.in_err-closing.ensures.parses.parsed)

pub returns-clause-parses : goal.returns-clause-parses
returns-clause-parses c = parsed_ok (list_ended _ _ c.more.invariant.so_far c.more-test.false c.in_ok-closing.ensures.parses.parsed)
