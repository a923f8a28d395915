-- How far the execution of a queue file is, and what executing one more line changes.
use Rattle.std.specs.Prelude.{◌≡◌, ℕ, ◌+◌, ◌≤◌, ◌++◌, length, string_bytes}
use Rattle.tp_port.specs.declared.engine.Engine.{Engine}
use Rattle.tp_queue.specs.History.{accepted}
use Rattle.tp_queue.specs.Queues.{StandsFor}
use Rattle.tp_port.specs.QueueLine.{QueueLine}
use Rattle.tp_port.specs.Replay.{Progress, after, answer, sighted}

-- the engine has reached this progress: it has seen these senders, its queue stands for the port's history, and it has
-- counted the arrivals
pub record HasReached (r : Engine) (s : Progress) : Type 0 where
  pub senders : r.senders ≡ s.senders
  pub queue : StandsFor r.queue s.history
  pub counted : r.arrivals ≡ length (accepted s.history)

-- the engine has counted at most so many arrivals and senders
pub record HasCounted (r : Engine) (most : ℕ) : Type 0 where
  pub arrivals : r.arrivals ≤ most
  pub senders : length r.senders ≤ most

-- the engine has executed the line and added its answer, whichever progress it had reached before; arrivals and senders
-- are at most one more
pub record CarriesLine (old new : Engine) (line : QueueLine) : Type 0 where
  pub progress : (s : Progress) → HasReached old s → HasReached new (after s line)
  pub answers : (s : Progress) → HasReached old s
      → string_bytes new.answers ≡ string_bytes old.answers ++ answer (sighted s line) line
  pub arrivals : new.arrivals ≤ old.arrivals + 1
  pub senders : length new.senders ≤ length old.senders + 1
