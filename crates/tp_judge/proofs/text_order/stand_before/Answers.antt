-- One pair more, up to the last.
use Rattle.std.proofs.Common.{arith}
use Rattle.tp_judge.proofs.TextOrderWithoutCircle.{stand_all, stand_more}
use Rattle.tp_judge.proofs.text_order.stand_before.Goals as goal

pub loop-place-preserved : goal.loop-place-preserved
loop-place-preserved c =
    stand_more c.args.before.now c.args.after.now c.loop-place.place _ _ (omega arith) (omega arith) c.if-before-place.false
    c.loop-place.invariant

pub returns : goal.returns
returns c = λ _.
    stand_all c.args.before.now c.args.after.now c.loop-place.place (λ k one other. omega arith) c.loop-place.invariant
