-- So it is in a report.
use Rattle.tp_exec.proofs.LooksSeeSentMessages.{looks_see_sent}
use Rattle.tp_exec.proofs.laws.looks_see_sent.Goals as goal

pub returns : goal.returns
returns c = looks_see_sent
