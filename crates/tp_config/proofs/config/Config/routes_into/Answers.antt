-- What stands beside its ports gives the routes into a component: those to it from any port.
use Rattle.std.proofs.Common.{◌≡◌, ◌∙◌, ap, arith, length, map, subst, sym}
use Rattle.std.specs.Prelude.{IfOk}
use Rattle.tp_config.specs.Setup.{Setup, ports_at}
use Rattle.tp_config.specs.Shape.{links_of, setup_of}
use Rattle.tp_config.specs.Routes.{AreDistinctRoutes, AreRoutesInto, routes_into}
use Rattle.tp_config.proofs.RouteLaws.{both_ways, few_at, into_distinct, kept_into}
use Rattle.tp_config.proofs.config.Config.routes_into.Goals as goal

pub routes_in-requires : goal.routes_in-requires
routes_in-requires c =
    let i = c.self.inside in
    let s = setup_of i.types.items i.components.items i.connected.items i.mapped.items in
    let count : c.port_count.result ≡ length (ports_at s.types s.components c.args.comp) =
    c.port_count.ensures ∙ ap (λ (t : Setup). length (ports_at t.types t.components c.args.comp)) (sym c.self.view_is) in
    omega (arith, count, few_at s c.self.invariant.setup c.args.comp)

pub returns-clause-routes : goal.returns-clause-routes
returns-clause-routes c =
    let i = c.self.inside in
    let s = setup_of i.types.items i.components.items i.connected.items i.mapped.items in
    let count : c.port_count.result ≡ length (ports_at s.types s.components c.args.comp) =
    c.port_count.ensures ∙ ap (λ (t : Setup). length (ports_at t.types t.components c.args.comp)) (sym c.self.view_is) in
    subst (λ l. IfOk c.routes_in.result (λ v. v.items ≡ l)) (kept_into s c.args.self.now (map links_of i.components.items)
    (map links_of c.as_slice.result.now) c.self.invariant c.self.view_is
    (ap (map links_of) c.as_slice.ensures.value) c.args.comp _ count) c.routes_in.ensures

pub returns-clause-distinct : goal.returns-clause-distinct
returns-clause-distinct c =
    let i = c.self.inside in
    let s = setup_of i.types.items i.components.items i.connected.items i.mapped.items in
    subst (λ t. AreDistinctRoutes (routes_into t c.args.comp)) c.self.view_is (into_distinct s c.self.invariant.setup c.args.comp)

pub returns-clause-both_ways : goal.returns-clause-both_ways
returns-clause-both_ways c =
    let i = c.self.inside in
    let s = setup_of i.types.items i.components.items i.connected.items i.mapped.items in
    subst (λ t. AreRoutesInto t c.args.comp (routes_into t c.args.comp)) c.self.view_is (both_ways s c.self.invariant.setup c.args.comp)
