-- What is gone is within what may have been received.
use Rattle.tp_queue.proofs.QueueStateTransitions.{within}
use Rattle.tp_queue.proofs.queue.Queue.ahead.Goals as goal

pub returns-in-Started-clause-within : goal.returns-in-Started-clause-within
returns-in-Started-clause-within g c = within _ _ _ _ c.self.view_is

pub returns-in-Halted-clause-within : goal.returns-in-Halted-clause-within
returns-in-Halted-clause-within g c = within _ _ _ _ c.self.view_is

pub returns-in-Stopped-clause-within : goal.returns-in-Stopped-clause-within
returns-in-Stopped-clause-within g c = within _ _ _ _ c.self.view_is
