-- A port more, of a component that has a number.
use Rattle.std.proofs.Common.{◌≡◌, ◌∙◌, Some, ap, length, subst, sym, arith, slice_get}
use Rattle.std.proofs.lemmas.Result.{IfOk-weaker, on_ok_weaker}
use Rattle.tp_judge.specs.Kept.{Keeps}
use Rattle.tp_judge.specs.declared.referee.tables.PortKey.{PortKey}
use Rattle.tp_judge.proofs.PortAndRouteEquality.{port_eq, port_same}
use Rattle.tp_judge.proofs.NumberTableGrowth.{whole_more}
use Rattle.tp_judge.proofs.KeySetGrowth.{few_key, kept_key}
use Rattle.tp_judge.proofs.referee.tables.Tables.port_key.Goals as goal

pub returns-clause-there : goal.returns-clause-there
returns-clause-there c =
    IfOk-weaker c.number_of.result _ _ (λ number found. found.1 ∙ ap Some (sym (port_same _ found.0 found.2))) c.number_of.ensures.there

pub returns-clause-grows : goal.returns-clause-grows
returns-clause-grows c =
    let key : PortKey = record { component = c.args.component; name = c.args.name } in
    on_ok_weaker c.number_of.result
    (λ keys. record {
      components = λ k x e. e;
      names = λ k x e. e;
      ports = subst (Keeps c.args.self.now.ports.keys) (sym keys) (kept_key port_eq c.args.self.now.ports.keys key);
      routes = λ k x e. e;
      messages = λ k x e. e;
      few = omega (arith, ap length keys, few_key port_eq c.args.self.now.ports.keys key);
    })
    c.number_of.ensures.keys

pub returns-clause-whole : goal.returns-clause-whole
returns-clause-whole c =
    on_ok_weaker c.number_of.result
    (λ keys k port e.
    whole_more c.args.self.now (record { component = c.args.component; name = c.args.name }) c.requires.whole c.requires.component k port
    (subst (λ l. slice_get l k ≡ Some port) keys e))
    c.number_of.ensures.keys
