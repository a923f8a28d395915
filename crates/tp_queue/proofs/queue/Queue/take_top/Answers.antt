-- The queue stands for the history with the top taken or dropped, and the top is what is given.
use Rattle.std.proofs.Common.{arith, sym}
use Rattle.std.proofs.lemmas.Grind.{common_steps}
use Rattle.tp_queue.proofs.QueueStateTransitions.{ahead_of, left_has_history, taken_out, top_absent}
use Rattle.tp_queue.proofs.queue.Queue.take_top.Goals as goal

pub returns-then-ahead-eq0 : goal.returns-then-ahead-eq0
returns-then-ahead-eq0 g c h s = (sym (top_absent _ _ (ahead_of _ _ c.ahead.ensures.count) c.if-ahead-eq0.true h s), s)

pub invariant_of-self : goal.invariant_of-self
invariant_of-self g c =
    left_has_history _ _ _ _ _ _ _ c.self.view_is (ahead_of _ _ c.ahead.ensures.count) c.if-ahead-eq0.false
    c.pop_front.ensures.rest (omega arith) c.self.invariant

pub returns : goal.returns
returns g c =
    taken_out _ _ _ _ _ _ _ _ c.self.view_is (ahead_of _ _ c.ahead.ensures.count) c.if-ahead-eq0.false
    c.pop_front.ensures.rest (omega arith)
    (λ d some. c.pop_front.ensures.value d (grind (arith, common_steps)))
