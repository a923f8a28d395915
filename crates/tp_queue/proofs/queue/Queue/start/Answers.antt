-- The queue stands for the history with the start behind it.
use Rattle.std.proofs.Common.{refl}
use Rattle.tp_common.specs.declared.event.Event.TheVariants as event
use Rattle.tp_queue.proofs.QueueStateTransitions.{start_stands, goes_on}
use Rattle.tp_queue.proofs.queue.Queue.start.Goals as goal

pub invariant_of-self : goal.invariant_of-self
invariant_of-self g c = goes_on event.Started c.self.invariant (start_stands _ _ _ _ _ refl c.clear.ensures.items)

pub returns-clause-after : goal.returns-clause-after
returns-clause-after g c = start_stands _ _ _ _ c.self.inside.ahead c.self.view_is c.clear.ensures.items
