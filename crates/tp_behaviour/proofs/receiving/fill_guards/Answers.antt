-- Each branch can be entered, and so its operation can be carried out.
use Rattle.std.proofs.Common.{subst, sym}
use Rattle.tp_play.specs.Playable.{CanEnter}
use Rattle.tp_play.proofs.PlayableStatementRules.{enters_each, enters_receive}
use Rattle.tp_behaviour.specs.Outcomes.{depth_of, stage_at}
use Rattle.tp_behaviour.proofs.receiving.fill_guards.Goals as goal

pub fill_guard-requires : goal.fill_guard-requires
fill_guard-requires c =
    let s = stage_at c.args.task.now in
    let n = depth_of c.args.frame.now in
    let branch = c.branch-item.result in
    let can = enters_each s n c.args.branches.now c.requires c.loop-branch.branch-index branch c.loop-branch-test.true in
    enters_receive s n branch (subst (λ x. CanEnter s n x) (sym c.branch-item.is) can)
