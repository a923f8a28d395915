-- What is taken out is the top, which meets the criteria; else there is no such top.
use Rattle.tp_queue.proofs.ReceivingCallAnswers.{receives_taken}
use Rattle.tp_queue.proofs.queue.Queue.receive.Goals as goal

pub returns-then-offers : goal.returns-then-offers
returns-then-offers g c =
    receives_taken _ _ _ _ _ _ c.offers.ensures c.if-offers.true c.take_top.ensures
