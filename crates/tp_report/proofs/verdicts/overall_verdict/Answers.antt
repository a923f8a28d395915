-- The overall verdict of no component is `none`.
use Rattle.tp_report.proofs.WorstVerdictGrowth.{no_component}
use Rattle.tp_report.proofs.verdicts.overall_verdict.Goals as goal

pub loop-component-init : goal.loop-component-init
loop-component-init c = no_component
