-- A new queue stands for the history in which nothing has happened.
use Rattle.std.proofs.Common.{[]}
use Rattle.tp_queue.proofs.QueueStateTransitions.{none_stands}
use Rattle.tp_queue.proofs.queue.Queue.new.Goals as goal

pub invariant_of-result : goal.invariant_of-result
invariant_of-result g c = ([], none_stands _ c.new.ensures.items)

pub returns : goal.returns
returns g c = none_stands _ c.new.ensures.items
