-- What is answered comes through the buffer.
use Rattle.tpr.proofs.AnswersThroughBuffers.{handed}
use Rattle.tpr.proofs.answer_through.Goals as goal

pub returns-clause-answer : goal.returns-clause-answer
returns-clause-answer g c =
    handed g.W.Write.contents _ c.args.buffer _ _ _ c.new-writer.ensures.inner c.answer-status.ensures.answer _ c.finish.ensures

pub returns-clause-always : goal.returns-clause-always
returns-clause-always g c = λ is.
    handed g.W.Write.contents _ c.args.buffer _ _ _ c.new-writer.ensures.inner (c.answer-status.ensures.always is) _ c.finish.ensures
