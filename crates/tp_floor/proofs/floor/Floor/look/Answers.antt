-- A look at the counts keeps the floor's rule.
use Rattle.std.proofs.Common.{rules}
use Rattle.tp_floor.proofs.CountsKeepFloorRule.{looks}
use Rattle.tp_floor.proofs.floor.Floor.look.Goals as goal

pub load_as-requires : goal.load_as-requires
load_as-requires g c = (search rules, (search rules, (search rules, looks _ _)))
