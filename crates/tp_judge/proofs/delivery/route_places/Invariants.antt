-- Of each of the routes so far that isn't lawful there is one place.
use Rattle.tp_judge.specs.Delivered.{IsDeliveredAt, IsUnlawfulOn}
use Rattle.tp_judge.specs.ToldOf.{OneForEach}
use Rattle.tp_judge.proofs.delivery.route_places.Given as goal

abbrev pub invariant-loop-route : goal.invariant-loop-route
invariant-loop-route l = OneForEach (IsDeliveredAt l.trace) (IsUnlawfulOn l.trace) l.route l.places.items
