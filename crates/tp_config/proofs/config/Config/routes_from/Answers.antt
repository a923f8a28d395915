-- What stands beside the port gives its routes, which differ and determine their sender.
use Rattle.std.proofs.Common.{◌≡◌, ◌∙◌, ap, map, subst}
use Rattle.std.specs.Prelude.{IfOk}
use Rattle.tp_config.specs.Shape.{links_of, setup_of}
use Rattle.tp_config.specs.Routes.{AreDistinctRoutes, SendersAreDetermined, route_to, routes_from}
use Rattle.tp_config.proofs.RouteLaws.{from_distinct, kept_from, senders}
use Rattle.tp_config.proofs.config.Config.routes_from.Goals as goal

pub returns-clause-routes : goal.returns-clause-routes
returns-clause-routes c =
    let i = c.self.inside in
    let s = setup_of i.types.items i.components.items i.connected.items i.mapped.items in
    subst (λ l. IfOk c.routes_out.result (λ v. v.items ≡ l)) (ap (map (route_to c.args.p)) c.beside.ensures
    ∙ kept_from s c.args.self.now (map links_of i.components.items) (map links_of c.as_slice.result.now) c.self.invariant c.self.view_is
    (ap (map links_of) c.as_slice.ensures.value) c.args.p) c.routes_out.ensures

pub returns-clause-distinct : goal.returns-clause-distinct
returns-clause-distinct c =
    let i = c.self.inside in
    let s = setup_of i.types.items i.components.items i.connected.items i.mapped.items in
    subst (λ t. AreDistinctRoutes (routes_from t c.args.p)) c.self.view_is (from_distinct s c.self.invariant.setup c.args.p)

pub returns-clause-senders : goal.returns-clause-senders
returns-clause-senders c =
    let i = c.self.inside in
    let s = setup_of i.types.items i.components.items i.connected.items i.mapped.items in
    subst SendersAreDetermined c.self.view_is (senders s c.self.invariant.setup)
