-- The line, and then nothing more.
use Rattle.tpr.proofs.AnswersThroughBuffers.{answered}
use Rattle.tpr.proofs.checking.answer_accepted.Goals as goal

pub returns : goal.returns
returns g c =
    answered _ _ _ _ _ _ _ c.write_bytes.ensures c.status_if_written.ensures.written c.status_if_written.ensures.told
