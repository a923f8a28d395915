-- Fewer things are left to do.
use Rattle.std.proofs.Common.{length, ap, ◌∙◌, arith}
use Rattle.std.proofs.lemmas.List.{length_push}
use Rattle.tp_judge.proofs.OrderProgressGrowth.{all_within}
use Rattle.tp_judge.proofs.one_order.pass_ready.Goals as goal

pub loop-c-smaller : goal.loop-c-smaller
loop-c-smaller g c =
    let h = c.args.histories.now in
    let within = all_within (g.H.Histories.kinds h) (g.H.Histories.size h) c.pass_entries.new.progress c.in_ok-pass_entries.ensures.size
    c.in_ok-pass_entries.ensures.progress in
    let popped = ap length c.in-Some.ensures.items ∙ length_push c.pop.new.self.items c.in-Some.c in
    let most = c.in_ok-pass_entries.ensures.most in
    let grown = c.in_ok-pass_entries.ensures.grown in
    omega (arith, within, popped, most, grown)
