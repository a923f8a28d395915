-- The places of routes, and where there are none that of a circle.
use Rattle.std.proofs.Common.{◌≡◌, [], List, None, Some, sym, arith}
use Rattle.std.proofs.lemmas.List.{append-nil, nil_from_length}
use Rattle.tp_judge.specs.declared.place.UnlawfulPlace.{UnlawfulPlace}
use Rattle.tp_judge.specs.declared.trace.IndexedTrace.{IndexedTrace}
use Rattle.tp_judge.specs.Before.{NoCircle}
use Rattle.tp_judge.specs.Delivered.{Delivered}
use Rattle.tp_judge.specs.ToldOf.{AreToldOfOrder, AreToldOfRoutes}
use Rattle.tp_judge.proofs.judging.order_places.Goals as goal

-- of circles nothing is told
routes_alone : (trace : IndexedTrace) (places : List UnlawfulPlace) → AreToldOfRoutes trace places → (Delivered trace → NoCircle trace)
    → AreToldOfOrder trace places
routes_alone trace places each none =
    record { routes = places; circle = None; of_routes = each; of_circles = none; are = sym (append-nil places) }

pub returns-then-not-is_empty-clause-all : goal.returns-then-not-is_empty-clause-all
returns-then-not-is_empty-clause-all c =
    let some : c.in_ok-places.places.items ≡ [] → ⊥ = grind (arith, c.is_empty.ensures, c.if-not-is_empty.true) in
    routes_alone c.args.trace.now c.in_ok-places.places.items c.in_ok-places.ensures.all
    (λ delivered. absurd (some (c.in_ok-places.ensures.lawful.1 delivered)))

pub returns-in-None-clause-all : goal.returns-in-None-clause-all
returns-in-None-clause-all c =
    routes_alone c.args.trace.now c.in_ok-places.places.items c.in_ok-places.ensures.all
    (λ delivered. rw c.in-None.is at c.in_ok-found.ensures)

pub returns-clause-all : goal.returns-clause-all
returns-clause-all c =
    let none = nil_from_length c.in_ok-places.places.items (grind (arith, c.is_empty.ensures, c.if-not-is_empty.false)) in
    record {
      routes = c.in_ok-places.places.items;
      circle = Some c.in-Some.place;
      of_routes = c.in_ok-places.ensures.all;
      of_circles = (c.in_ok-places.ensures.lawful.0 none, rw c.in-Some.is at c.in_ok-found.ensures);
      are = c.in_ok-push-in-Some.ensures.items;
    }
