-- The answers or the line of a fault, whole but where the writer has failed.
use Rattle.std.proofs.Common.{Err, ap}
use Rattle.tpr.proofs.AnswersThroughBuffers.{not_replayed, replayed}
use Rattle.tpr.proofs.modes.answer_queue.Goals as goal

pub returns-in-Ok : goal.returns-in-Ok
returns-in-Ok g c = replayed g.W.Write.contents _ _ _ _ _ _ _ c.in-Ok.ensures.written c.status_if_written.ensures.written c.status_if_written.ensures.told

pub returns-in-Err : goal.returns-in-Err
returns-in-Err g c =
    let e = c.in-Err.ensures in
    not_replayed g.W.Write.contents _ _ _ c.in-Err.fault _ _ _ _ e.fault (λ is. e.unread (ap Err is)) (λ is. e.cut (ap Err is))
    (λ is. e.failed (ap Err is)) e.unwritten c.answer_fault.ensures
