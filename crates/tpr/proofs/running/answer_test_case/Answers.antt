-- The report that the run gave is printed, or the line of its fault.
use Rattle.std.proofs.Common.{inl, inr, refl}
use Rattle.tp_common.proofs.WatchedWriterGrowth.{writes_first}
use Rattle.tp_report.specs.Reports.{told_text}
use Rattle.tpr.proofs.AnswersThroughBuffers.{answered_as}
use Rattle.tpr.proofs.running.answer_test_case.Goals as goal

pub returns-in-Ok : goal.returns-in-Ok
returns-in-Ok g c =
    let e = c.in-Ok.ensures in
    record {
      text = told_text c.args.telling c.args.test_case.now c.in-Ok.report;
      status = 0;
      allowed = inl (record {
        report = c.in-Ok.report;
        delivery = e.report;
        one_order = e.one_order;
        no_circle = e.no_circle;
        code = refl;
        said = refl;
      });
      written = writes_first g.W.Write.contents _ _ _ _ c.write_report.ensures c.status_if_written.ensures.written;
      told = c.status_if_written.ensures.told;
    }

pub returns-in-Err : goal.returns-in-Err
returns-in-Err g c =
    answered_as g.W.Write.contents _ _ _ _ _ _
    (λ text status is code. inr (record { fault = c.in-Err.fault; why = c.in-Err.ensures.fault; code = code; line = is })) c.answer_run_fault.ensures
