-- What a look at the branches comes to.
use Rattle.tp_behaviour.specs.Workers.{role_of}
use Rattle.tp_behaviour.specs.Views.{all_viewed}
use Rattle.tp_behaviour.proofs.WorkerInvariantOnActions.{looked_at}
use Rattle.tp_behaviour.proofs.looking.try_branches.Goals as goal

pub returns-clause-consistent : goal.returns-clause-consistent
returns-clause-consistent g c =
    (looked_at (role_of c.args.task.now) c.args.worker.now (all_viewed c.args.guards.now) c.in_ok-look.look c.snapshot.new.desk
    c.requires.consistent c.requires.own c.in_ok-look.ensures).1

pub returns-clause-saw : goal.returns-clause-saw
returns-clause-saw g c =
    (looked_at (role_of c.args.task.now) c.args.worker.now (all_viewed c.args.guards.now) c.in_ok-look.look c.snapshot.new.desk
    c.requires.consistent c.requires.own c.in_ok-look.ensures).0
