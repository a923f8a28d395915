-- With a `stop` nothing arrives, and the answer says that the port is stopped.
use Rattle.std.proofs.Common.{refl, arith}
use Rattle.tp_common.specs.declared.event.Event.TheVariants as event
use Rattle.tp_port.specs.QueueLine.{stop}
use Rattle.tp_port.proofs.ReplayedLineOutcomes.{carries_quiet, quiet_one}
use Rattle.tp_port.proofs.engine.Engine.stop.Goals as goal

pub returns : goal.returns
returns c =
    carries_quiet _ _ stop (λ s. quiet_one event.Stopped refl) refl (omega arith) refl
    (λ s come. c.stop.ensures s.history come.queue) (λ s come. c.in_ok-push_str.ensures.bytes)
