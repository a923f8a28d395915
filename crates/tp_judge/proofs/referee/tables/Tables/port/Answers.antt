-- The name's number stays when the port gets its own.
use Rattle.std.proofs.Common.{[], arith}
use Rattle.std.proofs.lemmas.Result.{on_ok_weaker}
use Rattle.tp_judge.proofs.NumberTableGrowth.{Grows-then, kept_length}
use Rattle.tp_judge.proofs.KeySetGrowth.{from_both}
use Rattle.tp_judge.proofs.referee.tables.Tables.port.Goals as goal

pub returns-clause-there : goal.returns-clause-there
returns-clause-there c =
    from_both c.port_key.result
    (λ port there grows. record { word = c.in_ok-word.word; there = there; named = grows.names _ _ c.in_ok-word.ensures.there })
    c.port_key.ensures.there c.port_key.ensures.grows

pub returns-clause-grows : goal.returns-clause-grows
returns-clause-grows c =
    on_ok_weaker c.port_key.result (λ grows. Grows-then 1 1 2 _ _ _ (omega arith) c.in_ok-word.ensures.grows grows) c.port_key.ensures.grows

pub port_key-requires-clause-component : goal.port_key-requires-clause-component
port_key-requires-clause-component c =
    kept_length c.args.self.now.components c.name.new.self.components c.args.component [] c.in_ok-word.ensures.grows.components c.requires.component
