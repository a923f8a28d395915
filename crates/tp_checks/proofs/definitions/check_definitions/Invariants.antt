-- The definitions so far obey the rules.
use Rattle.std.proofs.Common.{take}
use Rattle.tp_checks.specs.Sorted.{AreSound}
use Rattle.tp_checks.proofs.definitions.check_definitions.Given as goal

abbrev pub invariant-loop-definition : goal.invariant-loop-definition
invariant-loop-definition l = AreSound l.sorted l.system (take l.definition-index l.definitions)
