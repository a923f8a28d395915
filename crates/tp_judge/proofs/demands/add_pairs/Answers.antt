-- One pair more, up to the last.
use Rattle.std.proofs.Common.{ap, ◌∙◌, ◌++◌, arith}
use Rattle.tp_judge.proofs.DemandsOfLinePairs.{pairs_all, pairs_more}
use Rattle.tp_judge.proofs.demands.add_pairs.Goals as goal

pub loop-place-preserved : goal.loop-place-preserved
loop-place-preserved c =
    pairs_more c.args.before.now c.args.after.now c.loop-place.place _ _ _ c.loop-place.demands.items _ (omega arith) (omega arith)
    c.loop-place.invariant c.in_ok-push.ensures.items

pub returns : goal.returns
returns c =
    let done = c.loop-place-test.false in
    c.loop-place.invariant
    ∙ ap (λ l. c.args.demands.now.items ++ l) (pairs_all c.args.before.now c.args.after.now c.loop-place.place (omega arith))
