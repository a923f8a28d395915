-- All that the component has sent to itself is there, if the outbox is level.
use Rattle.tp_behaviour.specs.Workers.{role_of}
use Rattle.tp_behaviour.proofs.WorkerInvariantOnArrivals.{has_own}
use Rattle.tp_behaviour.proofs.looking.is_served.Goals as goal

pub returns-then-is_current : goal.returns-then-is_current
returns-then-is_current c level =
    has_own (role_of c.args.task.now) c.args.worker.now c.requires.consistent c.is_current.ensures.routed (c.is_level.ensures.level.0 level)
