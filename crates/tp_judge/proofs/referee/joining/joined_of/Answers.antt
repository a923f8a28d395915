-- One route more, and in the end all.
use Rattle.std.proofs.Common.{◌+◌, subst, sym, take, arith}
use Rattle.std.specs.Prelude.{◌↔◌, IsTrue}
use Rattle.std.proofs.lemmas.List.{take_all}
use Rattle.std.proofs.lemmas.Option.{slice_get-get_or}
use Rattle.tp_judge.specs.Joining.{AreJoinedBy, IsJoinedBy}
use Rattle.tp_judge.proofs.ZippedPrefixGrowth.{zip_next}
use Rattle.tp_judge.proofs.referee.joining.joined_of.Goals as goal

pub loop-route-init : goal.loop-route-init
loop-route-init c = subst (AreJoinedBy c.args.owners.now c.args.sections.now (take 0 c.args.routes.now)) (sym c.in_ok-joined.ensures.items) tt

pub loop-route-preserved : goal.loop-route-preserved
loop-route-preserved c =
    let n = c.loop-route.route-index in
    subst (AreJoinedBy c.args.owners.now c.args.sections.now (take (n + 1) c.args.routes.now)) (sym c.in_ok-push.ensures.items)
    (zip_next (λ route flag. IsTrue flag ↔ IsJoinedBy c.args.owners.now c.args.sections.now route) c.args.routes.now c.loop-route.joined.items n
    _ c.is_joined.result
    (slice_get-get_or c.args.routes.now n _ (omega arith))
    c.loop-route.invariant c.is_joined.ensures)

pub returns : goal.returns
returns c =
    subst (λ l. AreJoinedBy c.args.owners.now c.args.sections.now l c.loop-route.joined.items)
    (take_all c.loop-route.route-index c.args.routes.now (omega arith)) c.loop-route.invariant
