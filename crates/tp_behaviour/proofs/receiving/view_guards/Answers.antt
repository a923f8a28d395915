-- Each branch can be entered, and what lasts of it stands at its place.
use Rattle.std.proofs.Common.{arith, get_or, subst, sym}
use Rattle.tp_play.specs.declared.body.ResolvedBranch.{ResolvedBranch}
use Rattle.tp_play.specs.Playable.{CanEnter}
use Rattle.tp_play.proofs.PlayableStatementRules.{enters_each, enters_receive}
use Rattle.tp_behaviour.specs.Lasting.{IsLastingBranch}
use Rattle.tp_behaviour.specs.Outcomes.{depth_of, stage_at}
use Rattle.tp_behaviour.proofs.LastingStatementRules.{lasts_operation, zipped_get, zipped_long}
use Rattle.tp_behaviour.proofs.receiving.view_guards.Goals as goal

pub bounds-lasting-place : goal.bounds-lasting-place
bounds-lasting-place c = omega (arith, zipped_long IsLastingBranch c.args.branches.now c.args.lasting.now c.requires.lasting, c.loop-place-test.true)

pub view_guard-requires-clause-can : goal.view_guard-requires-clause-can
view_guard-requires-clause-can c =
    let s = stage_at c.args.task.now in
    let n = depth_of c.args.frame.now in
    let branch = c.index-branches-place.result in
    let can = enters_each s n c.args.branches.now c.requires.can c.loop-place.place branch c.loop-place-test.true in
    enters_receive s n branch (subst (λ x. CanEnter s n x) (sym c.index-branches-place.is) can)

pub view_guard-requires-clause-lasting : goal.view_guard-requires-clause-lasting
view_guard-requires-clause-lasting c =
    let ls = c.args.lasting.now in
    let i = c.loop-place.place in
    let l = get_or ls i c.index-lasting-place.result in
    let x = c.index-branches-place.result in
    lasts_operation x l
    (subst (λ (y : ResolvedBranch). IsLastingBranch y l) (sym c.index-branches-place.is)
    (zipped_get IsLastingBranch c.args.branches.now ls i x c.index-lasting-place.result c.requires.lasting c.loop-place-test.true))
