-- It is the overall verdict of the first components.
use Rattle.std.proofs.Common.{◌≡◌, take}
use Rattle.tp_report.specs.Verdicts.{overall_verdict, endings, locals}
use Rattle.tp_report.proofs.verdicts.overall_verdict.Given as goal

abbrev pub invariant-loop-component : goal.invariant-loop-component
invariant-loop-component l = l.verdict ≡ overall_verdict (endings (take l.component-index l.components)) (locals (take l.component-index l.components))
