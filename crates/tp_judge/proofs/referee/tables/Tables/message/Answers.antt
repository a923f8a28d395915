-- A message more.
use Rattle.std.proofs.Common.{arith}
use Rattle.tp_judge.proofs.KeySetGrowth.{from_both}
use Rattle.tp_judge.proofs.referee.tables.Tables.message.Goals as goal

pub returns-clause-grows : goal.returns-clause-grows
returns-clause-grows c =
    from_both c.number.result
    (λ _ kept few. record {
      components = λ k x e. e;
      names = λ k x e. e;
      ports = λ k x e. e;
      routes = λ k x e. e;
      messages = kept;
      few = omega (arith, few);
    })
    c.number.ensures.kept c.number.ensures.few
