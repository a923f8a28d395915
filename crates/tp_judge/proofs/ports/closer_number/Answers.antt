-- The line says that the component ended, or none does and it is the last.
use Rattle.std.proofs.Common.{◌-◌, length, arith}
use Rattle.tp_judge.proofs.LeftMessagesByLine.{closer_here, closer_last, no_end_more}
use Rattle.tp_judge.proofs.ports.closer_number.Goals as goal

pub returns-in-End : goal.returns-in-End
returns-in-End c =
    closer_here c.args.closing.now c.loop-line.line-index _ c.loop-line-test.true c.loop-line.invariant c.in-End.is

pub loop-line-preserved : goal.loop-line-preserved
loop-line-preserved c =
    no_end_more c.args.closing.now c.loop-line.line-index _ c.loop-line-test.true c.loop-line.invariant c.in_default.not-End

pub returns : goal.returns
returns c =
    let some = c.requires in
    let done = c.loop-line-test.false in
    closer_last c.args.closing.now (length c.args.closing.now - 1) _ (omega arith)
    (λ k line below. c.loop-line.invariant k line (omega arith))
