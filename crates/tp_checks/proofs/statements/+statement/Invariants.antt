-- The statements or branches so far stand for what is made of them.
use Rattle.std.proofs.Common.{take}
use Rattle.tp_checks.specs.{Scoping.here, Bodies.IsBlock, Bodies.AreBranches}
use Rattle.tp_checks.proofs.statements.+statement.Given as goal

abbrev pub invariant-resolve_block-loop-statement : goal.invariant-resolve_block-loop-statement
invariant-resolve_block-loop-statement l =
    here IsBlock l.context (take l.statement-index l.block) l.made

abbrev pub invariant-resolve_branches-loop-branch : goal.invariant-resolve_branches-loop-branch
invariant-resolve_branches-loop-branch l =
    here AreBranches l.context (take l.branch-index l.branches) l.made
