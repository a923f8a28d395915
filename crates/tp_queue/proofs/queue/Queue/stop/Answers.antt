-- The queue stands for the history with the stop behind it.
use Rattle.std.proofs.Common.{refl}
use Rattle.tp_common.specs.declared.event.Event.TheVariants as event
use Rattle.tp_queue.proofs.QueueStateTransitions.{stop_stands, goes_on}
use Rattle.tp_queue.proofs.queue.Queue.stop.Goals as goal

pub invariant_of-self : goal.invariant_of-self
invariant_of-self g c = goes_on event.Stopped c.self.invariant (stop_stands _ _ _ _ refl)

pub returns : goal.returns
returns g c = stop_stands _ _ _ c.self.inside.ahead c.self.view_is
