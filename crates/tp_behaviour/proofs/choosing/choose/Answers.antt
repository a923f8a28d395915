-- The looks before `[else]` discarded messages, and the last one found no branch open.
use Rattle.tp_behaviour.specs.Views.{all_viewed}
use Rattle.tp_behaviour.proofs.AltChoiceOutcomes.{chose_branch, chose_else}
use Rattle.tp_behaviour.proofs.choosing.choose.Goals as goal

-- what was discarded so far, and then a branch
pub returns-in-Taken-clause-chose : goal.returns-in-Taken-clause-chose
returns-in-Taken-clause-chose g c =
    chose_branch c.args.execution.now.task.now.comp (all_viewed c.args.guards.now) c.args.has_else c.in-Taken.branch
    c.args.worker.now.desk.log c.loop.worker.desk.log c.look_at_branches.new.worker.desk.log
    c.loop.invariant.drops (rw c.in-Taken.is at c.in_ok-branch.ensures.saw)

-- what was discarded so far, and then `[else]`, no branch being open
pub returns-then-has_else-clause-chose : goal.returns-then-has_else-clause-chose
returns-then-has_else-clause-chose g c =
    let saw = rw c.in-Nothing.is at c.in_ok-branch.ensures.saw in
    chose_else (all_viewed c.args.guards.now) c.args.has_else c.args.worker.now.desk.log c.loop.worker.desk.log c.note.new.worker.desk.log
    c.look_at_branches.new.worker.desk c.if-has_else.true
    c.loop.invariant.drops saw.0 saw.1 c.in_ok-note-in-Nothing.ensures.trace
