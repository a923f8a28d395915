-- What the threads left and what was settled is of a run; in its report nothing happened before itself, and it says
-- that a behaviour waits although one of its branches is open only if one does.
use Rattle.std.proofs.Common.{subst}
use Rattle.std.proofs.lemmas.Result.{err_from_is_err_and}
use Rattle.tp_config.specs.Setup.{Setup}
use Rattle.tp_exec.specs.Settlings.{AreSettled}
use Rattle.tp_exec.proofs.NoHappenedBeforeCircle.{ordered}
use Rattle.tp_exec.proofs.NoMessageOvertakes.{keeps_order}
use Rattle.tp_exec.proofs.ReasonsForNoReport.{by_threads, no_report}
use Rattle.tp_exec.proofs.RunOutcomes.{of_a_run}
use Rattle.tp_exec.proofs.run.run.Goals as goal

pub make_report-requires : goal.make_report-requires
make_report-requires g c =
    let played = c.in_ok-played.played.items in
    let ended = c.in-Ok-settle_all.ended.items in
    of_a_run c.args.test_case.now played ended c.in_ok-played.ensures.workers c.in_ok-played.ensures.played
    (subst (λ (s : Setup). AreSettled s played ended) c.config-2.ensures c.in-Ok-settle_all.ensures)

pub returns-clause-overtaking : goal.returns-clause-overtaking
returns-clause-overtaking g c = keeps_order c.args.test_case.now c.make_report.result c.make_report.ensures.report

pub returns-clause-no_circle : goal.returns-clause-no_circle
returns-clause-no_circle g c = ordered c.args.test_case.now c.make_report.result c.make_report.ensures.report

pub returns-in_err-played-clause-fault : goal.returns-in_err-played-clause-fault
returns-in_err-played-clause-fault g c =
    let p = err_from_is_err_and c.from_residual.result c.from_residual.ensures.1 in
    rw (p.1, p.2) (by_threads c.args.test_case.now c.in_err-played.field-0.0 c.in_err-played.ensures.fault)

pub returns-clause-fault : goal.returns-clause-fault
returns-clause-fault g c =
    let made = c.args.test_case.now in
    let played = c.in_ok-played.played.items in
    let ended = c.in-Ok-settle_all.ended.items in
    let run = of_a_run made played ended c.in_ok-played.ensures.workers c.in_ok-played.ensures.played
    (subst (λ (s : Setup). AreSettled s played ended) c.config-2.ensures c.in-Ok-settle_all.ensures) in
    no_report made ended run c.make_report.result c.make_report.ensures.refusal
