-- What is printed may be.
use Rattle.std.proofs.Common.{inl, inr}
use Rattle.tpr.proofs.AnswersThroughBuffers.{answered_as}
use Rattle.tpr.proofs.checking.answer_check.Goals as goal

pub returns-in-Err : goal.returns-in-Err
returns-in-Err g c =
    let e = c.in-Err.ensures in
    answered_as g.W.Write.contents _ _ _ _ _ _
    (λ text status is code. inr (record { fault = c.in-Err.fault; found = e.fault; unread = e.unread; code = code; line = is })) c.answer_check_fault.ensures

pub returns-in-Ok : goal.returns-in-Ok
returns-in-Ok g c =
    answered_as g.W.Write.contents _ _ _ _ _ _ (λ text status is code. inl (code, c.in-Ok.ensures.right, is)) c.answer_accepted.ensures
