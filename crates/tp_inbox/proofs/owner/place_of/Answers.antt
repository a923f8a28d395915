-- A route that none of the routes is isn't found.
use Rattle.std.proofs.Common.{arith}
use Rattle.tp_inbox.proofs.RoutePlaceTableGrowth.{found_nowhere}
use Rattle.tp_inbox.proofs.owner.place_of.Goals as goal

pub returns : goal.returns
returns c =
    found_nowhere c.args.routes.now c.args.places.now c.args.route c.loop-place.place c.requires (omega (arith, c.loop-place-test.false)) c.loop-place.invariant
