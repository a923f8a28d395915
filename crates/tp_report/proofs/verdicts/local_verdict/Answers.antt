-- The local verdict of an empty history is `none`.
use Rattle.tp_report.proofs.WorstVerdictGrowth.{no_entry}
use Rattle.tp_report.proofs.verdicts.local_verdict.Goals as goal

pub loop-entry-init : goal.loop-entry-init
loop-entry-init c = no_entry
