-- A component more, and ports keep theirs.
use Rattle.std.proofs.Common.{[], arith}
use Rattle.std.proofs.lemmas.Result.{on_ok_weaker}
use Rattle.tp_judge.proofs.NumberTableGrowth.{kept_length}
use Rattle.tp_judge.proofs.KeySetGrowth.{from_both}
use Rattle.tp_judge.proofs.referee.tables.Tables.component.Goals as goal

pub returns-clause-grows : goal.returns-clause-grows
returns-clause-grows c =
    from_both c.number.result
    (λ _ kept few. record {
      components = kept;
      names = λ k x e. e;
      ports = λ k x e. e;
      routes = λ k x e. e;
      messages = λ k x e. e;
      few = omega (arith, few);
    })
    c.number.ensures.kept c.number.ensures.few

pub returns-clause-whole : goal.returns-clause-whole
returns-clause-whole c =
    on_ok_weaker c.number.result
    (λ kept k port e. kept_length c.args.self.now.components c.number.new.self port.component [] kept (c.requires.whole k port e))
    c.number.ensures.kept
