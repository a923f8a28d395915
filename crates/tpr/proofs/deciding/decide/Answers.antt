-- The verdicts, or that memory was refused.
use Rattle.std.proofs.Common.{inl, inr}
use Rattle.tpr.proofs.AnswersThroughBuffers.{answered_more}
use Rattle.tpr.proofs.deciding.decide.Goals as goal

pub returns-in-Ok : goal.returns-in-Ok
returns-in-Ok g c = answered_more g.W.Write.contents _ _ _ _ _ (λ text status may. inl may) c.answer_found.ensures

pub returns-in-Err : goal.returns-in-Err
returns-in-Err g c = answered_more g.W.Write.contents _ _ _ _ _ (λ text status may. inr may) c.answer_want_of_memory.ensures
