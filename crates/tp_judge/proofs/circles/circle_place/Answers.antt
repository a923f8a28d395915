-- An order of the lines, or a line that happens before itself.
use Rattle.std.proofs.Common.{◌≡◌, ℕ, List, get_or, sym, subst, refl, ◌∙◌}
use Rattle.std.specs.Prelude.{All}
use Rattle.std.proofs.lemmas.List.{get_or_default}
use Rattle.tp_judge.specs.declared.demand.Demand.{Demand}
use Rattle.tp_judge.specs.Circle.{IsCircle}
use Rattle.tp_judge.specs.Order.{IsBelow, IsOrder}
use Rattle.tp_judge.specs.Before.{LineHappensBefore}
use Rattle.tp_judge.specs.Demands.{demands_of}
use Rattle.tp_judge.specs.OneRun.{IsLeastOf}
use Rattle.tp_judge.proofs.HappensBeforeByDemands.{demands_below, leads_before, ordered_no_circle}
use Rattle.tp_judge.proofs.NumbersLieOnCircles.{lies_on_circle}
use Rattle.tp_judge.proofs.circles.circle_place.Goals as goal

pub order_or_circle-requires : goal.order_or_circle-requires
order_or_circle-requires c =
    let trace = c.args.trace.now in
    subst (λ (l : List Demand). All (IsBelow trace.numbers) l) (sym (c.deref.ensures.value ∙ c.in_ok-demands.ensures))
    (demands_below trace c.requires.within)

pub returns-in-Ordered : goal.returns-in-Ordered
returns-in-Ordered c =
    let trace = c.args.trace.now in
    let order = rw c.in-Ordered.is at c.in_ok-order_or_circle.ensures in
    ordered_no_circle trace trace.numbers c.in-Ordered.field-0.items c.requires.delivered
    (subst (λ (l : List Demand). IsOrder trace.numbers l c.in-Ordered.field-0.items)
    (c.deref.ensures.value ∙ c.in_ok-demands.ensures) order)

pub returns : goal.returns
returns c =
    let trace = c.args.trace.now in
    let circle = c.in-Circle.circle.items in
    let found = rw c.in-Circle.is at c.in_ok-order_or_circle.ensures in
    let is = subst (λ (l : List Demand). IsCircle l circle) (c.deref.ensures.value ∙ c.in_ok-demands.ensures) found.1 in
    let least = subst (λ (l : List ℕ). IsLeastOf l c.least.result) c.deref-in-Circle.ensures.value c.least.ensures in
    let k = least.0.0 in
    let lies = lies_on_circle (demands_of trace) circle k is least.0.1 in
    let same : get_or circle k 0 ≡ c.least.result = get_or_default circle k 0 c.least.result least.0.1 ∙ least.0.2 in
    record {
      rule_is = refl;
      happens = subst (λ (n : ℕ). LineHappensBefore trace n n) same
          (leads_before trace c.requires.delivered lies.0 (get_or circle k 0) (get_or circle k 0) lies.1);
      circle = circle;
      is_circle = is;
      first = least;
    }
