-- What is said, and then nothing more.
use Rattle.tpr.proofs.AnswersThroughBuffers.{answered}
use Rattle.tpr.proofs.judging.answer_ruling.Goals as goal

pub returns : goal.returns
returns g c =
    answered _ _ _ _ _ _ _ c.write_ruling.ensures c.status_if_written.ensures.written (rw c.ruling_status.ensures at c.status_if_written.ensures.told)
