-- One thing less is left to do.
use Rattle.std.proofs.Common.{arith}
use Rattle.tp_judge.proofs.OrderProgressGrowth.{all_within}
use Rattle.tp_judge.proofs.one_order.pass_entries.Goals as goal

pub loop-kind-smaller : goal.loop-kind-smaller
loop-kind-smaller g c =
    let h = c.args.histories.now in
    let within = all_within (g.H.Histories.kinds h) (g.H.Histories.size h) c.step.new.progress c.step.ensures.size c.step.ensures.progress in
    let ahead = c.in-Some.ensures.ahead.1 in
    omega (arith, within, ahead)
