-- The size of the statements or branches so far is counted, up to where counting stops.
use Rattle.std.proofs.Common.{◌≡◌, take}
use Rattle.tp_play.specs.Sizes.{capped, size_of_all, size_in_all}
use Rattle.tp_checks.proofs.size.+size.Given as goal

abbrev pub invariant-count_block-loop-statement : goal.invariant-count_block-loop-statement
invariant-count_block-loop-statement l = l.sum ≡ capped (size_of_all (take l.statement-index l.block))

abbrev pub invariant-count_branches-loop-branch : goal.invariant-count_branches-loop-branch
invariant-count_branches-loop-branch l = l.sum ≡ capped (size_in_all (take l.branch-index l.branches))
