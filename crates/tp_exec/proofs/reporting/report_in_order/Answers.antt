-- Where no one order gives the histories that are reported, none gives those that there were.
use Rattle.std.proofs.Common.{ap, ◌∙◌, sym, subst}
use Rattle.std.proofs.lemmas.Bool.{false≢true}
use Rattle.tp_exec.specs.OneOrder.{HasOneOrder, logs_of}
use Rattle.tp_exec.proofs.ReportMatchesRun.{same_logs}
use Rattle.tp_exec.proofs.reporting.report_in_order.Goals as goal

pub returns-else-branch : goal.returns-else-branch
returns-else-branch c = λ has.
    let reports = c.in_ok-reports.reports.items in
    let same = ap logs_of c.as_slice.ensures.value ∙ same_logs c.args.config.now c.args.components.items reports c.in_ok-reports.ensures in
    false≢true (sym c.if-branch.false ∙ c.in_ok-has_one_order.ensures.1 (subst HasOneOrder (sym same) has))
