-- One more entry of the queue stands in the text.
use Rattle.tp_port.specs.Replay.{envelope_text}
use Rattle.tp_port.proofs.LeftEntryTextGrowth.{text_next}
use Rattle.tp_port.proofs.answers.write_left.Goals as goal

pub loop-place-preserved : goal.loop-place-preserved
loop-place-preserved c = text_next (envelope_text c.args.senders.now) _ _ _ _ _ c.loop-place.invariant c.in_ok-write_queued.ensures
