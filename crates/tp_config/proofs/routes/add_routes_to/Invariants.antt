-- There is a route from each of the ports passed so far, after the routes that were there before.
use Rattle.std.proofs.Common.{◌≡◌, ◌++◌, map, take}
use Rattle.tp_config.specs.Routes.{route_to}
use Rattle.tp_config.proofs.routes.add_routes_to.Given as goal

abbrev pub invariant-loop-q : goal.invariant-loop-q
invariant-loop-q l = l.routes.items ≡ l.initial.routes.items ++ map (λ q. route_to q l.p) (take l.q-index l.beside)
