-- The line comes through the buffer.
use Rattle.tpr.proofs.AnswersThroughBuffers.{handed}
use Rattle.tpr.proofs.answer_unread.Goals as goal

pub returns : goal.returns
returns g c =
    handed g.W.Write.contents _ c.args.buffer _ _ _ c.new-writer.ensures.inner c.answer_fault-status.ensures _ c.finish.ensures
