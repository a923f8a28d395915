-- A look after some messages were moved is one from the history before.
use Rattle.tp_behaviour.specs.Views.{all_viewed}
use Rattle.tp_behaviour.proofs.AltChoiceOutcomes.{saw_after, saw_early}
use Rattle.tp_behaviour.proofs.looking.look_early.Goals as goal

pub returns-clause-saw : goal.returns-clause-saw
returns-clause-saw g c =
    let comp = c.args.execution.now.task.now.comp in
    let gs = all_viewed c.args.guards.now in
    saw_early comp gs c.in_ok-early.early c.args.worker.now.desk.log c.try_branches.new.worker.desk.log
    (saw_after comp gs c.in_ok-early.early c.args.worker.now.desk.log c.offer.new.worker.desk.log c.try_branches.new.worker.desk.log c.in_ok-offer.ensures.trace
    c.in_ok-early.ensures.saw)
