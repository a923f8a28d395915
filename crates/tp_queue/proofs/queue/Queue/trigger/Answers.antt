-- What is taken out is the top, received where it meets the criteria and else discarded.
use Rattle.tp_queue.proofs.ReceivingCallAnswers.{triggers}
use Rattle.tp_queue.proofs.queue.Queue.trigger.Goals as goal

pub returns-in-Some : goal.returns-in-Some
returns-in-Some g c =
    triggers _ _ _ _ _ _ _ _ c.offers-fits.ensures c.take_top.ensures c.in-Some.is c.if-fits.true

pub returns-in-Some-2 : goal.returns-in-Some-2
returns-in-Some-2 g c =
    triggers _ _ _ _ _ _ _ _ c.offers-fits.ensures c.take_top.ensures c.in-Some.is c.if-fits.false
