use Rattle.tp_syntax.proofs.SameModules.{readings_are_unique}
use Rattle.tp_syntax.proofs.laws.readings_are_unique.Goals as goal

pub returns : goal.returns
returns c = readings_are_unique
