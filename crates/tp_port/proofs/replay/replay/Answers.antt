-- What is answered, or refused, of the text that was read is so of what the reader had.
use Rattle.tp_port.proofs.LineAnswersFromFront.{on_ok, read_faults, read_replayed}
use Rattle.tp_port.proofs.replay.replay.Goals as goal

pub returns-in-Ok-clause-fault : goal.returns-in-Ok-clause-fault
returns-in-Ok-clause-fault g c =
    read_faults c.replay_text.result _ _ c.in-Ok.text.items c.in-Ok.ensures.whole c.in-Ok.ensures.short
    c.in-Ok.ensures.taken (rw (← c.as_slice.ensures.value) c.replay_text.ensures.fault)

pub returns-in-Ok-clause-written : goal.returns-in-Ok-clause-written
returns-in-Ok-clause-written g c =
    on_ok c.replay_text.result _ _
    (read_replayed g.W.Write.contents _ _ c.as_slice.result.now _ _ c.in-Ok.ensures.whole c.as_slice.ensures.value) c.replay_text.ensures.written

pub returns-in-Ok-clause-cut : goal.returns-in-Ok-clause-cut
returns-in-Ok-clause-cut g c = λ failed.
    read_replayed g.W.Write.contents _ _ c.as_slice.result.now _ _ c.in-Ok.ensures.whole c.as_slice.ensures.value (c.replay_text.ensures.cut failed)
