-- A name more.
use Rattle.std.proofs.Common.{arith}
use Rattle.tp_judge.proofs.KeySetGrowth.{from_both}
use Rattle.tp_judge.proofs.referee.tables.Tables.name.Goals as goal

pub returns-clause-grows : goal.returns-clause-grows
returns-clause-grows c =
    from_both c.number.result
    (λ _ kept few. record {
      components = λ k x e. e;
      names = kept;
      ports = λ k x e. e;
      routes = λ k x e. e;
      messages = λ k x e. e;
      few = omega (arith, few);
    })
    c.number.ensures.kept c.number.ensures.few
