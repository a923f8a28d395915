-- The queue stands for the history with the clearing behind it.
use Rattle.std.proofs.Common.{refl}
use Rattle.tp_common.specs.declared.event.Event.TheVariants as event
use Rattle.tp_queue.proofs.QueueStateTransitions.{clear_stands, goes_on}
use Rattle.tp_queue.proofs.queue.Queue.clear.Goals as goal

pub invariant_of-self : goal.invariant_of-self
invariant_of-self g c = goes_on event.Cleared c.self.invariant (clear_stands _ _ _ _ _ refl c.clear.ensures.items)

pub returns-clause-after : goal.returns-clause-after
returns-clause-after g c = clear_stands _ _ _ _ _ c.self.view_is c.clear.ensures.items
