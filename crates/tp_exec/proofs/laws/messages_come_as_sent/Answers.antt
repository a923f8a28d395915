-- So it is in a report.
use Rattle.tp_exec.proofs.MessagesArriveAsSent.{messages_come_as_sent}
use Rattle.tp_exec.proofs.laws.messages_come_as_sent.Goals as goal

pub returns : goal.returns
returns c = messages_come_as_sent
