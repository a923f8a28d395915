-- What is told is printed.
use Rattle.tpr.proofs.running.answer_trace.Goals as goal

pub returns : goal.returns
returns g c = c.answer_told.ensures
