-- With one more type put in, the set has what the list has up to there.
use Rattle.std.proofs.Common.{arith}
use Rattle.tp_config.proofs.TypeSetMembership.{one_listed}
use Rattle.tp_config.proofs.type_list.known_types.Goals as goal

pub loop-ty-preserved : goal.loop-ty-preserved
loop-ty-preserved c = one_listed _ _ c.args.types.now c.loop-ty.ty-index _ (omega arith) c.in_ok-insert.ensures.updates.0 c.loop-ty.invariant
