-- No table has anything twice.
use Rattle.tp_judge.proofs.NumbersIdentifyNames.{one_to_one}
use Rattle.tp_judge.proofs.referee.numbering.numbers_are_names.Goals as goal

pub returns : goal.returns
returns c = one_to_one
