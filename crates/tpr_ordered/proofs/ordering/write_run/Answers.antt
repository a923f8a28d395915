-- The report that the run gave is written.
use Rattle.std.proofs.Common.{inl, refl}
use Rattle.tp_report.specs.Reports.{report_text}
use Rattle.tpr_ordered.proofs.ordering.write_run.Goals as goal

pub returns-in-Ok-outcome : goal.returns-in-Ok-outcome
returns-in-Ok-outcome g c =
    let e = c.in-Ok-outcome.ensures in (
      report_text c.args.trial.now.test_case.now c.in-Ok-outcome.report,
      inl (record {
        report = c.in-Ok-outcome.report;
        delivery = e.report;
        one_order = e.one_order;
        no_circle = e.no_circle;
        is = refl;
      }),
      c.write_report.ensures,
    )
