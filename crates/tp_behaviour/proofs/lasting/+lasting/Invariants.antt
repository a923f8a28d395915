-- What was made so far lasts of the statements, and of the branches, so far.
use Rattle.std.proofs.Common.{take}
use Rattle.tp_behaviour.specs.Lasting.{AreLasting, AreLastingBranches}
use Rattle.tp_behaviour.proofs.lasting.+lasting.Given as goal

abbrev pub invariant-lasting_block-loop-statement : goal.invariant-lasting_block-loop-statement
invariant-lasting_block-loop-statement l = AreLasting (take l.statement-index l.block) l.made

abbrev pub invariant-lasting_branches-loop-branch : goal.invariant-lasting_branches-loop-branch
invariant-lasting_branches-loop-branch l = AreLastingBranches (take l.branch-index l.branches) l.made
