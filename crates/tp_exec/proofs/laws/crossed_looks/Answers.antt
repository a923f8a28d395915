-- So it is in any histories.
use Rattle.tp_exec.proofs.CrossedLooksWithoutOrder.{crossed_looks}
use Rattle.tp_exec.proofs.laws.crossed_looks.Goals as goal

pub returns : goal.returns
returns c = crossed_looks
