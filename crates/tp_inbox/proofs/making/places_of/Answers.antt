-- With each turn one route more is filed at its place, up to the last.
use Rattle.std.proofs.Common.{◌≡◌, ℕ, length, subst, arith}
use Rattle.tp_inbox.specs.Places.{AreFiled}
use Rattle.tp_inbox.proofs.RoutePlaceTableGrowth.{filed_none, filed_next}
use Rattle.tp_inbox.proofs.making.places_of.Goals as goal

pub loop-place-init : goal.loop-place-init
loop-place-init c = filed_none _ _ c.in_ok-places.ensures.empty

pub loop-place-preserved : goal.loop-place-preserved
loop-place-preserved c =
    filed_next c.args.routes.now c.loop-place.places c.insert.new.self c.loop-place.place c.requires c.loop-place-test.true c.loop-place.invariant
    c.in_ok-insert.ensures.updates

pub returns : goal.returns
returns c =
    let whole : c.loop-place.place ≡ length c.args.routes.now = omega (arith, c.loop-place.auto.place-end, c.loop-place-test.false) in
    subst (λ (n : ℕ). AreFiled n c.args.routes.now c.loop-place.places) whole c.loop-place.invariant
