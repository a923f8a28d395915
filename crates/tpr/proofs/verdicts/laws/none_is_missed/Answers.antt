-- So the law holds.
use Rattle.tpr.proofs.NoVerdictIsMissed.{none_is_missed}
use Rattle.tpr.proofs.verdicts.laws.none_is_missed.Goals as goal

pub returns : goal.returns
returns c = none_is_missed
