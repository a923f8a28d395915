-- Where the outbox is level, all that the component has sent to itself is there.
use Rattle.tp_behaviour.specs.Workers.{role_of}
use Rattle.tp_behaviour.proofs.WorkerInvariantOnArrivals.{at_home, has_own}
use Rattle.tp_behaviour.proofs.looking.look_in.Goals as goal

-- what came is of routes into the inbox, and the component's own messages are all there
pub returns-then-is_level-clause-own : goal.returns-then-is_level-clause-own
returns-then-is_level-clause-own g c =
    has_own (role_of c.args.task.now) c.drain.new.worker c.in_ok-drain.ensures.consistent c.in_ok-drain.ensures.routed.routed
    (c.is_level.ensures.level.0 c.if-is_level.true)

-- the senders that lead back lead to its own inbox
pub is_level-requires : goal.is_level-requires
is_level-requires g c = record { home = at_home (role_of c.args.task.now) c.drain.new.worker c.in_ok-drain.ensures.consistent }
