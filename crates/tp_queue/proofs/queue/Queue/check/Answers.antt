-- The answer is the top, which meets the criteria, and that it was found changes nothing.
use Rattle.tp_queue.proofs.ReceivingCallAnswers.{checked_stands, checks_found}
use Rattle.tp_queue.proofs.queue.Queue.check.Goals as goal

pub returns : goal.returns
returns g c =
    record {
      found = checks_found _ _ _ _ _ c.offers.ensures c.if-not-offers.false c.top.ensures;
      after = checked_stands _ _ c.top.ensures;
    }
