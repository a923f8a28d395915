-- The lines before are the same, and what the bad line tells may not stand after them.
use Rattle.tp_judge.proofs.TraceLineGrowth.{bad_stays_bad}
use Rattle.tp_judge.proofs.referee.reading.bad_lines_stay_bad.Goals as goal

pub returns : goal.returns
returns c = bad_stays_bad
