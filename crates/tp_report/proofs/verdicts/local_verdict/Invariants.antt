-- It is the local verdict of the first entries.
use Rattle.std.proofs.Common.{◌≡◌, take}
use Rattle.tp_report.specs.Verdicts.{local_verdict}
use Rattle.tp_report.proofs.verdicts.local_verdict.Given as goal

abbrev pub invariant-loop-entry : goal.invariant-loop-entry
invariant-loop-entry l = l.verdict ≡ local_verdict (take l.entry-index l.log)
