-- A route more.
use Rattle.std.proofs.Common.{◌∙◌, Some, ap, length, subst, sym, arith}
use Rattle.std.proofs.lemmas.Result.{IfOk-weaker, on_ok_weaker}
use Rattle.tp_judge.specs.Kept.{Keeps}
use Rattle.tp_judge.specs.declared.referee.tables.RouteKey.{RouteKey}
use Rattle.tp_judge.proofs.PortAndRouteEquality.{route_eq, route_same}
use Rattle.tp_judge.proofs.KeySetGrowth.{few_key, kept_key}
use Rattle.tp_judge.proofs.referee.tables.Tables.route.Goals as goal

pub returns-clause-there : goal.returns-clause-there
returns-clause-there c =
    IfOk-weaker c.number_of.result _ _ (λ number found. found.1 ∙ ap Some (sym (route_same _ found.0 found.2))) c.number_of.ensures.there

pub returns-clause-grows : goal.returns-clause-grows
returns-clause-grows c =
    let key : RouteKey = record { sender = c.args.sender; port = c.args.port } in
    on_ok_weaker c.number_of.result
    (λ keys. record {
      components = λ k x e. e;
      names = λ k x e. e;
      ports = λ k x e. e;
      routes = subst (Keeps c.args.self.now.routes.keys) (sym keys) (kept_key route_eq c.args.self.now.routes.keys key);
      messages = λ k x e. e;
      few = omega (arith, ap length keys, few_key route_eq c.args.self.now.routes.keys key);
    })
    c.number_of.ensures.keys
