-- The line, and then nothing more.
use Rattle.tpr.proofs.AnswersThroughBuffers.{answered}
use Rattle.tpr.proofs.checking.answer_check_fault.Goals as goal

pub returns : goal.returns
returns g c =
    answered _ _ _ _ _ _ _ c.write_check_fault.ensures c.status_if_written.ensures.written (rw c.check_fault_status.ensures at c.status_if_written.ensures.told)
