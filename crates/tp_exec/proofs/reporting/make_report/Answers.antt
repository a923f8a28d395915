-- What a run came to is reported where all are at rest, and the report has a text.
use Rattle.std.proofs.Common.{Global, List, Vec, subst, sym}
use Rattle.std.specs.Prelude.{All, MatchOption, Option}
use Rattle.std.specs.List.{AllZip}
use Rattle.tp_config.specs.Setup.{Setup, IsComponent}
use Rattle.tp_behaviour.specs.Outcomes.{WaitsWithin}
use Rattle.tp_exec.specs.declared.ended.EndedComponent.{EndedComponent}
use Rattle.tp_report.specs.declared.report.CompReport.{CompReport}
use Rattle.tp_exec.specs.OneOrder.{HasOneOrder, logs_of}
use Rattle.tp_exec.specs.Reporting.{IsAtRest, IsReportedAs, IsWithoutOrder}
use Rattle.tp_exec.proofs.ReportMatchesRun.{all_there, report_of, reportable, waits_within}
use Rattle.tp_exec.proofs.reporting.make_report.Goals as goal

-- these are reported, and one order gives their histories; or none does
abbrev IsInOrder : Setup → List EndedComponent → Option (Vec CompReport Global) → Type 0
IsInOrder s ended made =
    MatchOption made (IsWithoutOrder ended) (λ xs. AllZip (IsReportedAs s) ended xs.items × HasOneOrder (logs_of xs.items))

pub are_at_rest-requires : goal.are_at_rest-requires
are_at_rest-requires c =
    subst (All (λ (e : EndedComponent). WaitsWithin e.desk.ports e.outcome)) (sym c.as_slice.ensures.value)
    (waits_within c.args.test_case.now c.args.ended.items c.requires)

pub report_in_order-requires : goal.report_in_order-requires
report_in_order-requires c =
    subst (λ (s : Setup). All (λ (e : EndedComponent). IsComponent s e.desk.comp) c.args.ended.items) (sym c.config.ensures)
    (all_there c.args.test_case.now c.args.ended.items c.requires)

pub returns-clause-report : goal.returns-clause-report
returns-clause-report c =
    let made = c.args.test_case.now in
    let ended = c.args.ended.items in
    let xs = c.in-Some.components.items in
    let told = subst (IsInOrder c.config.result.now ended) c.in-Some.is c.in-Ok.ensures in
    report_of made ended c.requires xs (subst (λ (s : Setup). AllZip (IsReportedAs s) ended xs) c.config.ensures told.0)
    (subst (All IsAtRest) c.as_slice.ensures.value (c.are_at_rest.ensures.0 c.if-not-are_at_rest.false))
    c.conclude.result c.conclude.ensures.components c.conclude.ensures.result

pub returns-clause-text : goal.returns-clause-text
returns-clause-text c =
    let made = c.args.test_case.now in
    let ended = c.args.ended.items in
    let xs = c.in-Some.components.items in
    let told = subst (IsInOrder c.config.result.now ended) c.in-Some.is c.in-Ok.ensures in
    reportable made ended c.requires xs (subst (λ (s : Setup). AllZip (IsReportedAs s) ended xs) c.config.ensures told.0)
    c.components-lawful.ensures.lawful c.conclude.result c.conclude.ensures.components
