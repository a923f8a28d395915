-- A component that waits makes the overall verdict `error`; another one joins its own.
use Rattle.std.proofs.Common.{◌∙◌, ap}
use Rattle.tp_value.specs.Verdicts.{worse}
use Rattle.tp_report.proofs.WorstVerdictGrowth.{after_waiting, after_end}
use Rattle.tp_report.proofs.verdicts.overall_after.Goals as goal

pub returns-in-Waiting : goal.returns-in-Waiting
returns-in-Waiting c before is = after_waiting before c.args.component.now c.in-Waiting.is

pub returns-in-Done : goal.returns-in-Done
returns-in-Done c before is = c.join.ensures ∙ ap (λ v. worse v c.args.component.now.verdict) is ∙ after_end before c.args.component.now c.in-Done.is
