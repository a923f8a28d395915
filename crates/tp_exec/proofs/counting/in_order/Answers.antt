-- The next route has a count, which stands beside it.
use Rattle.std.proofs.Common.{◌≡◌, ◌++◌, ◌∷◌, [], ℕ, All, List, Some, map, sym, ap, ◌∙◌, subst}
use Rattle.std.specs.Vec.Iter.{into_iter_items}
use Rattle.std.proofs.lemmas.List.{append-nil}
use Rattle.std.proofs.lemmas.List.Elements.{All-head, All-nil, All-push, All-tail}
use Rattle.indexmap.specs.IndexMap.{get}
use Rattle.tp_config.specs.declared.port_type.RouteId.{RouteId}
use Rattle.tp_inbox.specs.Places.{route_eq}
use Rattle.tp_exec.proofs.RouteMessageCounts.{one_counted}
use Rattle.tp_exec.proofs.OneSenderReturns.{no_rest}
use Rattle.tp_exec.proofs.counting.in_order.Goals as goal

abbrev Counted : Type 0
Counted = RouteId × ℕ

pub loop-route-init : goal.loop-route-init
loop-route-init c =
    let rest = into_iter_items c.into_iter-route-iterator.result in
    let all : rest ≡ c.args.routes.items = c.into_iter-route-iterator.ensures.into_iter_gives.0 in
    let none : c.new-all.result.items ≡ [] = c.new-all.ensures.items in
    record {
      routes = ap (λ (l : List Counted). map (λ (n : Counted). n.0) l ++ rest) none ∙ all;
      counts =
          subst (All (λ (n : Counted). get route_eq c.args.counts.now n.0 ≡ Some n.1)) (sym none)
          (All-nil (λ (n : Counted). get route_eq c.args.counts.now n.0 ≡ Some n.1));
      filed = subst (All (λ (r : RouteId). (n : ℕ) × (get route_eq c.args.counts.now r ≡ Some n))) (sym all) c.requires;
    }

pub count_on-requires : goal.count_on-requires
count_on-requires c =
    let rest = into_iter_items c.next.new.self in
    let P : RouteId → Type 0 = λ r. (n : ℕ) × (get route_eq c.args.counts.now r ≡ Some n) in
    All-head P c.in-Some.route rest (subst (All P) c.in-Some.ensures.steps.0 c.loop-route.invariant.filed)

pub loop-route-preserved : goal.loop-route-preserved
loop-route-preserved c =
    let was = c.loop-route.invariant in
    let rest = into_iter_items c.next.new.self in
    let r = c.in-Some.route in
    let n = c.count_on.result in
    let steps : into_iter_items c.loop-route.route-iterator ≡ r ∷ rest = c.in-Some.ensures.steps.0 in
    let pushed : c.push.new.self.items ≡ c.loop-route.all.items ++ (r, n) ∷ [] = c.in_ok-push.ensures.items in
    let Filed : Counted → Type 0 = λ k. get route_eq c.args.counts.now k.0 ≡ Some k.1 in
    let P : RouteId → Type 0 = λ q. (k : ℕ) × (get route_eq c.args.counts.now q ≡ Some k) in
    record {
      routes = one_counted c.loop-route.all.items c.push.new.self.items (into_iter_items c.loop-route.route-iterator) rest c.args.routes.items r n pushed steps
          was.routes;
      counts = subst (All Filed) (sym pushed) (All-push Filed c.loop-route.all.items (r, n) was.counts c.count_on.ensures);
      filed = All-tail P r rest (subst (All P) steps was.filed);
    }

pub returns-clause-routes : goal.returns-clause-routes
returns-clause-routes c =
    let routes = map (λ (n : Counted). n.0) c.loop-route.all.items in
    let none = no_rest c.loop-route.route-iterator c.in-None.ensures.steps.0 in
    sym (append-nil routes) ∙ ap (λ (l : List RouteId). routes ++ l) (sym none) ∙ c.loop-route.invariant.routes

pub returns-clause-counts : goal.returns-clause-counts
returns-clause-counts c = c.loop-route.invariant.counts
