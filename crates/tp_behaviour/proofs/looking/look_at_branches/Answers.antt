-- All that came before the look leaves the moments as they were.
use Rattle.std.proofs.Common.{◌∙◌}
use Rattle.tp_behaviour.specs.Views.{all_viewed}
use Rattle.tp_behaviour.proofs.AltChoiceOutcomes.{saw_after}
use Rattle.tp_behaviour.proofs.looking.look_at_branches.Goals as goal

pub returns-clause-saw : goal.returns-clause-saw
returns-clause-saw g c =
    let early = rw c.in-Nothing.is at c.in_ok-look.ensures.saw in
    saw_after c.args.execution.now.task.now.comp (all_viewed c.args.guards.now) c.in_ok-look-2.look c.args.worker.now.desk.log
    c.look_in.new.worker.desk.log c.try_branches.new.worker.desk.log (c.in_ok-look_in.ensures.trace ∙ early) c.in_ok-look-2.ensures.saw
