-- How far a block, and the turns of a `for`, have come, and how much of a body is left.
use Rattle.std.proofs.Common.{◌≡◌, ◌+◌, ◌*◌, of_z, to_z, w64}
use denote.Param.Weighed.{most}
use Rattle.tp_play.specs.declared.body.ResolvedStatement.TheVariants as statement
use Rattle.tp_play.proofs.body.ResolvedBranch.TheLaws.{the_size as branch_size}
use Rattle.tp_play.proofs.body.ResolvedStatement.TheLaws.{the_size}
use Rattle.tp_behaviour.specs.declared.outcome.Outcome.TheVariants as outcome
use Rattle.tp_behaviour.specs.Outcomes.{HoldsAsDeclared}
use Rattle.tp_behaviour.specs.Workers.{IsConsistent, KeepsInboxes, role_of}
use Rattle.tp_behaviour.proofs.BlockPathGrowth.{Passed}
use Rattle.tp_behaviour.proofs.BlockTurnGrowth.{TurnsMade}
use Rattle.tp_behaviour.proofs.statements.+statements.Given as goal

-- how deep what is left goes, and of several with the same block which calls the other
abbrev pub decreases-execute : goal.decreases-execute
decreases-execute g l = 5 * most the_size l.block.statements.now + 2

abbrev pub decreases-turn : goal.decreases-turn
decreases-turn g l = 5 * most the_size l.block.statements.now + 3

abbrev pub decreases-turns : goal.decreases-turns
decreases-turns g l = 5 * most the_size l.block.statements.now + 4

abbrev pub decreases-step : goal.decreases-step
decreases-step g l = 5 * goal.size-step g l + 1

abbrev pub decreases-play_alt : goal.decreases-play_alt
decreases-play_alt g l = 5 * the_size (statement.Alt l.branches.now l.otherwise.now)

abbrev pub decreases-branch : goal.decreases-branch
decreases-branch g l = 5 * most branch_size l.alt.branches.now

-- the statements so far were carried out
abbrev pub invariant-execute-loop-place : goal.invariant-execute-loop-place
invariant-execute-loop-place g l = record {
  consistent : IsConsistent (role_of l.execution.task.now) l.worker;
  same : KeepsInboxes l.initial.worker l.worker;
  held : HoldsAsDeclared l.execution.task.now l.frame;
  turns : l.frame.turns.items ≡ l.initial.frame.turns.items;
  goes_on : l.outcome ≡ outcome.Done;
  passed : Passed l.execution.task.now l.block.statements.now l.place l.initial.worker l.initial.frame l.worker l.frame;
}

-- the turns so far were made
abbrev pub invariant-turns-loop-value : goal.invariant-turns-loop-value
invariant-turns-loop-value g l = record {
  consistent : IsConsistent (role_of l.execution.task.now) l.worker;
  same : KeepsInboxes l.initial.worker l.worker;
  held : HoldsAsDeclared l.execution.task.now l.frame;
  turns : l.frame.turns.items ≡ l.initial.frame.turns.items;
  goes_on : l.outcome ≡ outcome.Done;
  made : TurnsMade l.execution.task.now (to_z w64 (of_z w64 l.fn.values.start)) l.value (to_z w64 (of_z w64 l.fn.values.end)) l.block.statements.now
      l.initial.worker l.initial.frame l.worker l.frame;
}
