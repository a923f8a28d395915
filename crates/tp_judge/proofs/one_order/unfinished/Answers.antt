-- One more component has ended, or there is no order.
use Rattle.std.proofs.Common.{◌<◌, ◌≤◌, length, slice_index, ◌∙◌, below_more, arith}
use Rattle.std.proofs.lemmas.Grind.{get_or_default_zero}
use Rattle.tp_judge.proofs.NoOrderWhereStuck.{all_gone}
use Rattle.tp_judge.proofs.OrderProgressGrowth.{ended}
use Rattle.tp_judge.proofs.one_order.unfinished.Goals as goal

pub index-requires : goal.index-requires
index-requires g c = omega (arith, c.requires.size_is.places)

pub returns-then-index-end-clause-none : goal.returns-then-index-end-clause-none
returns-then-index-end-clause-none g c = λ has.
    let kinds = g.H.Histories.kinds c.args.histories.now in
    let n = c.loop-c.c in
    let progress = c.args.progress.now in
    let places = progress.places.items in
    let there : n < length places = omega (arith, c.requires.size_is.places) in
    let is = c.index.ensures ∙ get_or_default_zero places n c.index.result.now there in
    let gone = c.requires.gone in
    let all = all_gone kinds gone.0 gone.1 (slice_index places) (slice_index progress.came.items) (slice_index progress.sent.items)
    gone.2.0 gone.2.1 gone.2.2 c.requires.stuck has.0 has.1 n in
    omega (arith, is, all, c.end.ensures, c.if-index-end.true)

pub returns-then-index-end-clause-unfinished : goal.returns-then-index-end-clause-unfinished
returns-then-index-end-clause-unfinished g c =
    let n = c.loop-c.c in
    let places = c.args.progress.now.places.items in
    let there : n < length places = omega (arith, c.requires.size_is.places) in
    let is = c.index.ensures ∙ get_or_default_zero places n c.index.result.now there in
    (omega arith, omega (arith, is, c.end.ensures, c.if-index-end.true))

pub loop-c-preserved : goal.loop-c-preserved
loop-c-preserved g c =
    let kinds = g.H.Histories.kinds c.args.histories.now in
    let n = c.loop-c.c in
    let places = c.args.progress.now.places.items in
    let there : n < length places = omega (arith, c.requires.size_is.places) in
    let is = c.index.ensures ∙ get_or_default_zero places n c.index.result.now there in
    let within : slice_index places n ≤ length (kinds n) = c.requires.gone.2.1.within n in
    below_more _ _ c.loop-c.invariant (omega (arith, is, c.end.ensures, c.if-index-end.false, within))

pub returns-clause-ended : goal.returns-clause-ended
returns-clause-ended g c =
    let h = c.args.histories.now in
    let progress = c.args.progress.now in
    let gone = c.requires.gone in
    ended (g.H.Histories.kinds h) gone.0 (g.H.Histories.size h) progress.places.items progress.came.items progress.sent.items gone.2
    c.requires.size_is.places (g.met.H.Histories.no_more h) (λ k low. c.loop-c.invariant k (omega arith))
