-- Each component has a text, and these and the overall verdict are the text of the report.
use Rattle.std.proofs.Common.{subst, sym}
use Rattle.std.specs.Prelude.{All}
use Rattle.tp_report.specs.Reports.{IsPresent}
use Rattle.tp_report.proofs.EntryNamesInConfiguration.{present}
use Rattle.tp_report.proofs.PiecewiseWrittenText.{whole_report}
use Rattle.tp_report.proofs.writing.write_report.Goals as goal

pub write_components-requires : goal.write_components-requires
write_components-requires g c = subst (All (IsPresent c.args.test_case.now.config)) (sym c.as_slice.ensures.value)
    (present c.args.test_case.now.config c.args.report.now c.requires)

pub returns : goal.returns
returns g c =
    whole_report g.W.Write.contents c.args.telling c.args.test_case.now c.args.report.now c.as_slice.result.now c.as_slice.ensures.value _ _ _
    c.write_components.ensures c.write_verdict.ensures
