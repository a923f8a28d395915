-- The numbers of port, route and message stay as the tables grow.
use Rattle.std.proofs.Common.{arith, refl}
use Rattle.tp_judge.proofs.NumberTableGrowth.{Grows-then, port_grows}
use Rattle.tp_judge.proofs.referee.tables.Tables.mention.Goals as goal

pub returns-clause-mention : goal.returns-clause-mention
returns-clause-mention c =
    let later = Grows-then 1 1 2 _ _ _ (omega arith) c.in_ok-route.ensures.grows c.in_ok-text.ensures.grows in
    record {
      port = port_grows 2 _ _ later _ _ _ c.in_ok-port.ensures.there;
      route = c.in_ok-text.ensures.grows.routes _ _ c.in_ok-route.ensures.there;
      number = refl;
      message = c.in_ok-text.ensures.there;
    }

pub returns-clause-grows : goal.returns-clause-grows
returns-clause-grows c =
    let later = Grows-then 1 1 2 _ _ _ (omega arith) c.in_ok-route.ensures.grows c.in_ok-text.ensures.grows in
    Grows-then 2 2 4 _ _ _ (omega arith) c.in_ok-port.ensures.grows later
