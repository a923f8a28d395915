-- Before the first line nothing has arrived, and no sender is seen.
use Rattle.std.proofs.Common.{ap, length, arith, refl}
use Rattle.tp_queue.specs.History.{accepted}
use Rattle.tp_port.proofs.engine.Engine.new.Goals as goal

pub returns : goal.returns
unfolding accepted
returns c =
    record {
      progress = record { senders = c.new.ensures; queue = c.new-2.ensures; counted = refl };
      answers = c.new-3.ensures.bytes;
      within = record { arrivals = omega arith; senders = omega (arith, ap length c.new.ensures) };
    }
