-- One place more.
use Rattle.std.proofs.Common.{subst, sym, arith}
use Rattle.tp_judge.specs.OrderProgress.{IsBegun}
use Rattle.tp_judge.proofs.OrderProgressGrowth.{begun_more, begun_no}
use Rattle.tp_judge.proofs.one_order.first_places.Goals as goal

pub loop-c-init : goal.loop-c-init
loop-c-init g c = begun_no (g.H.Histories.kinds c.args.histories.now) c.in_ok-places.places.items c.in_ok-places.ensures.items

pub loop-c-preserved : goal.loop-c-preserved
loop-c-preserved g c =
    let kinds = g.H.Histories.kinds c.args.histories.now in
    let n = c.loop-c.c in
    begun_more kinds n c.begin.result c.loop-c.places.items c.push.new.self.items c.in_ok-push.ensures.items
    (subst (IsBegun (kinds n)) (sym c.begin.ensures) (c.requires n (omega arith))) c.loop-c.invariant
