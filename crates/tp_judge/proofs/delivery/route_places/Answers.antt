-- One route more is lawful, or has its place.
use Rattle.std.proofs.Common.{◌≡◌, ◌+◌, length, sym, subst, List, [], ◌∷◌, ◌++◌, ap, arith}
use Rattle.std.proofs.lemmas.Grind.{common_steps}
use Rattle.tp_judge.specs.declared.place.UnlawfulPlace.{UnlawfulPlace}
use Rattle.tp_judge.specs.Delivered.{IsDeliveredAt, IsUnlawfulOn}
use Rattle.tp_judge.specs.ToldOf.{OneForEach, of_none, next_lawful, next_unlawful}
use Rattle.tp_judge.proofs.CollectedUnlawfulPlaces.{each_found, none_exactly}
use Rattle.tp_judge.proofs.UnlawfulRouteExclusions.{unlawful_route}
use Rattle.tp_judge.proofs.UniqueUnlawfulRoutePlace.{one_on_route}
use Rattle.tp_judge.proofs.delivery.route_places.Goals as goal
use Rattle.tp_judge.proofs.delivery.route_places.Goals.{in-None, in-Some+in_ok-push-in-Some}

pub loop-route-init : goal.loop-route-init
loop-route-init c =
    let trace = c.args.trace.now in
    subst (OneForEach (IsDeliveredAt trace) (IsUnlawfulOn trace) 0) (sym c.new-places.ensures.items) of_none

pub loop-route-preserved : goal.loop-route-preserved
loop-route-preserved c =
    let trace = c.args.trace.now in
    let places = c.loop-route.places.items in
    let P : List UnlawfulPlace → Type 0 = OneForEach (IsDeliveredAt trace) (IsUnlawfulOn trace) (c.loop-route.route + 1) in
    elim c.match-found.branch [
      | in-None w ↦
          subst P (ap (λ v. v.items) (sym w.places-is))
          (next_lawful c.loop-route.route places c.loop-route.invariant w.in-None.ensures)
      | in-Some+in_ok-push-in-Some w ↦
          let pushed : c.match-found.places.items ≡ places ++ w.in-Some.place ∷ [] =
          grind (arith, common_steps, w.places-is, w.in_ok-push-in-Some.ensures.items) in
          subst P (sym pushed)
          (next_unlawful c.loop-route.route places w.in-Some.place c.loop-route.invariant
          (record { is = w.in-Some.ensures; no_other = λ other there. one_on_route _ _ other w.in-Some.place there.broken w.in-Some.ensures.broken }))
    ]

pub returns : goal.returns
returns c =
    let trace = c.args.trace.now in
    let P = IsDeliveredAt trace in
    let Q = IsUnlawfulOn trace in
    let count = length trace.joined.items in
    let places = c.loop-route.places.items in
    let same : c.loop-route.route ≡ count = omega arith in
    let each = subst (λ n. OneForEach P Q n places) same c.loop-route.invariant in
    record {
      lawful =
          none_exactly P Q count places
          (λ k place broken lawful. unlawful_route _ _ place broken.broken (lawful broken.joined)) each;
      told = each_found P Q count count places each (omega arith);
      all = each;
    }
