-- What stands beside the port gives its routes, and the one chosen is among them.
use Rattle.std.proofs.Common.{◌∙◌, ap, map, subst}
use Rattle.std.specs.Prelude.{MatchResult}
use Rattle.tp_config.specs.Shape.{links_of, setup_of}
use Rattle.tp_config.specs.Routes.{IsRouteOf, RouteCauseOf, route_to, routes_from}
use Rattle.tp_config.proofs.RouteLaws.{chosen, kept_from}
use Rattle.tp_config.proofs.config.Config.route.Goals as goal

pub returns-clause-route : goal.returns-clause-route
returns-clause-route c =
    let i = c.self.inside in
    let s = setup_of i.types.items i.components.items i.connected.items i.mapped.items in
    subst (λ l. MatchResult c.choose_route.result (λ r. IsRouteOf l c.args.to r) (λ f. RouteCauseOf l c.args.to f))
    (ap (map (route_to c.args.p)) c.beside.ensures
    ∙ kept_from s c.args.self.now (map links_of i.components.items) (map links_of c.as_slice.result.now) c.self.invariant c.self.view_is
    (ap (map links_of) c.as_slice.ensures.value) c.args.p) c.choose_route.ensures.route

pub returns-clause-among : goal.returns-clause-among
returns-clause-among c = chosen (routes_from c.args.self.now c.args.p) c.args.to c.choose_route.result (returns-clause-route c)
