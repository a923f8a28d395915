-- Each line is read as the one thing that it tells.
use Rattle.tp_judge.proofs.TraceLineGrowth.{says_one}
use Rattle.tp_judge.proofs.referee.reading.says_one_at_most.Goals as goal

pub returns : goal.returns
returns c = says_one
