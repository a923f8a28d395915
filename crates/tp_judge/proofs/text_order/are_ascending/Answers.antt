-- One line more has a greater number.
use Rattle.std.proofs.Common.{arith}
use Rattle.tp_judge.proofs.TextOrderWithoutCircle.{ascend_more}
use Rattle.tp_judge.proofs.text_order.are_ascending.Goals as goal

pub loop-line-init : goal.loop-line-init
loop-line-init c = record { pairs = λ j k d order low. absurd (omega arith); below = λ k d low. absurd (omega arith) }

pub loop-line-preserved : goal.loop-line-preserved
loop-line-preserved c =
    ascend_more c.args.lines.now c.loop-line.line-index c.loop-line.next c.from-number.result _ c.loop-line-test.true c.from-number.ensures
    c.if-number-next.false c.loop-line.invariant
