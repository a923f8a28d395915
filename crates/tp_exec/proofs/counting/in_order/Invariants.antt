-- The routes so far have their counts, and the others have one each.
use Rattle.std.proofs.Common.{◌≡◌, ◌++◌, ℕ, All, Some, map}
use Rattle.std.specs.Vec.Iter.{into_iter_items}
use Rattle.indexmap.specs.IndexMap.{get}
use Rattle.tp_config.specs.declared.port_type.RouteId.{RouteId}
use Rattle.tp_inbox.specs.Places.{route_eq}
use Rattle.tp_exec.proofs.counting.in_order.Given as goal

abbrev pub invariant-loop-route : goal.invariant-loop-route
invariant-loop-route l =
    let rest = into_iter_items l.route-iterator in
    record {
      routes : map (λ (n : RouteId × ℕ). n.0) l.all.items ++ rest ≡ l.fn.routes.items;
      counts : All (λ (n : RouteId × ℕ). get route_eq l.counts n.0 ≡ Some n.1) l.all.items;
      filed : All (λ (r : RouteId). (n : ℕ) × (get route_eq l.counts r ≡ Some n)) rest;
    }
