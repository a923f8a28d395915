-- So it is.
use Rattle.tp_script.proofs.OneTestCase.{scripts_are_accepted}
use Rattle.tp_script.proofs.laws.scripts_are_accepted.Goals as goal

pub returns : goal.returns
returns c = scripts_are_accepted
