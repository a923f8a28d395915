-- Two lists of lines that one text says are equal.
use Rattle.tp_port.proofs.UniqueQueueLines.{says_one}
use Rattle.tp_port.proofs.command.says_one_at_most.Goals as goal

pub returns : goal.returns
returns c = says_one
