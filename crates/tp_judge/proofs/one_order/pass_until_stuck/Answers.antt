-- Less is left to do.
use Rattle.std.proofs.Common.{rules, ◌≡◌, true, arith}
use Rattle.tp_judge.proofs.OrderProgressGrowth.{all_within}
use Rattle.tp_judge.proofs.one_order.pass_until_stuck.Goals as goal

pub loop-ready-smaller : goal.loop-ready-smaller
loop-ready-smaller g c =
    let h = c.args.histories.now in
    let within = all_within (g.H.Histories.kinds h) (g.H.Histories.size h) c.pass_from_each.new.progress c.in_ok-pass_from_each.ensures.size
    c.in_ok-pass_from_each.ensures.progress in
    let yes : c.in_ok-pass_from_each.field-0 ≡ true = search rules in
    let ahead = c.in_ok-pass_from_each.ensures.ahead yes in
    omega (arith, within, ahead)
