-- What is printed of the script's fault, or of a run of its test case.
use Rattle.std.proofs.Common.{inl, inr}
use Rattle.tpr.proofs.AnswersThroughBuffers.{answered_as, answered_more}
use Rattle.tpr.proofs.running.answer_told.Goals as goal

pub returns-in-Err : goal.returns-in-Err
returns-in-Err g c =
    let e = c.in-Err.ensures in
    answered_as g.W.Write.contents _ _ _ _ _ _
    (λ text status is code. inr (record { fault = c.in-Err.fault; found = e.fault; unread = e.unread; code = code; line = is })) c.answer_check_fault.ensures

pub returns-in-Ok : goal.returns-in-Ok
returns-in-Ok g c =
    answered_more g.W.Write.contents _ _ _ _ _ (λ text status may. inl (c.in-Ok.test_case, c.in-Ok.ensures.script, may)) c.answer_test_case.ensures
