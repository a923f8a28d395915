-- The first branch that does something decides, and where none does, none is open.
use Rattle.std.proofs.Common.{◌∙◌, sym, subst, take}
use Rattle.std.proofs.lemmas.List.{take_all}
use Rattle.tp_behaviour.specs.Choices.{IsOpen, NoneOpen}
use Rattle.tp_behaviour.specs.Looks.{Looked, Tried}
use Rattle.tp_behaviour.specs.Views.{all_viewed, viewed}
use Rattle.tp_behaviour.proofs.BranchLookOutcomes.{looked, one_more}
use Rattle.tp_behaviour.proofs.GuardViewsByPlace.{all_past, viewed_at}
use Rattle.tp_behaviour.proofs.choice.snapshot.Goals as goal

-- a branch did something, and none before it is open
pub returns-in_default : goal.returns-in_default
returns-in_default g c =
    let gs = all_viewed c.args.guards.now in
    let at = c.loop-branch.branch in
    let this = viewed c.index-guards-branch.result in
    let this_is = viewed_at c.args.guards.now at c.index-guards-branch.result c.loop-branch-test.true c.index-guards-branch.is in
    let same = c.loop-branch.invariant.0 in
    let none = subst (λ d. NoneOpen d.log (take at gs)) (sym same) c.loop-branch.invariant.1 in
    subst (λ d. Looked gs d c.in_ok-look.look c.attempt.new.desk) same
    (looked gs c.loop-branch.desk at this c.in_ok-look.look c.attempt.new.desk this_is none c.in_ok-look.ensures c.in_default.not-Nothing)

-- it did nothing: it isn't open either
pub loop-branch-preserved : goal.loop-branch-preserved
loop-branch-preserved g c =
    let at = c.loop-branch.branch in
    let this = viewed c.index-guards-branch.result in
    let this_is = viewed_at c.args.guards.now at c.index-guards-branch.result c.loop-branch-test.true c.index-guards-branch.is in
    let same = c.loop-branch.invariant.0 in
    let tried = subst (λ s. Tried this at c.loop-branch.desk s c.attempt.new.desk) c.in-Nothing.is c.in_ok-look.ensures in (
      tried.1 ∙ same,
      one_more (λ x. ¬ IsOpen c.args.desk.now.log x) at (all_viewed c.args.guards.now) this this_is c.loop-branch.invariant.1
          (subst (λ d. ¬ IsOpen d.log this) same tried.0),
    )

-- none did something
pub returns : goal.returns
returns g c = (
  subst (NoneOpen c.args.desk.now.log)
      (take_all c.loop-branch.branch (all_viewed c.args.guards.now) (all_past c.args.guards.now c.loop-branch.branch c.loop-branch-test.false))
      c.loop-branch.invariant.1,
  c.loop-branch.invariant.0,
)
