-- The table has the count, by the condition.
use Rattle.std.proofs.Common.{◌∙◌}
use Rattle.tp_exec.proofs.counting.count_on.Goals as goal

pub unreachable-requires : goal.unreachable-requires
unreachable-requires c = let none = c.in-None.ensures.value ∙ c.requires.1 in cc
