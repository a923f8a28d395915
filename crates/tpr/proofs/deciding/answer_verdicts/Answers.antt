-- What is printed of the script's fault, or of its test case's verdicts; and what `always` says of each run.
use Rattle.std.proofs.Common.{inl, inr}
use Rattle.tpr.proofs.AnswersThroughBuffers.{answered_as, answered_more}
use Rattle.tpr.proofs.AlwaysMeansEachReport.{kept}
use Rattle.tpr.proofs.deciding.answer_verdicts.Goals as goal

pub returns-in-Err-clause-answer : goal.returns-in-Err-clause-answer
returns-in-Err-clause-answer g c =
    let e = c.in-Err.ensures in
    answered_as g.W.Write.contents _ _ _ _ _ _
    (λ text status is code. inr (record { fault = c.in-Err.fault; found = e.fault; unread = e.unread; code = code; line = is })) c.answer_check_fault.ensures

pub returns-in-Err-clause-always : goal.returns-in-Err-clause-always
returns-in-Err-clause-always g c =
    answered_more g.W.Write.contents _ _ _ _ _ (λ text status may. kept _ _ c.check_script.new.reader text status may) (returns-in-Err-clause-answer g c)

pub returns-in-Ok-clause-answer : goal.returns-in-Ok-clause-answer
returns-in-Ok-clause-answer g c =
    answered_more g.W.Write.contents _ _ _ _ _ (λ text status may. inl (c.in-Ok.test_case, c.in-Ok.ensures.script, may)) c.decide.ensures

pub returns-in-Ok-clause-always : goal.returns-in-Ok-clause-always
returns-in-Ok-clause-always g c =
    answered_more g.W.Write.contents _ _ _ _ _ (λ text status may. kept _ _ c.check_script.new.reader text status may) (returns-in-Ok-clause-answer g c)
