-- The replay of a port's lines.
use Rattle.std.specs.Prelude.{List}
use Rattle.tp_queue.specs.Queues.{StandsFor}
use Rattle.tp_judge.specs.declared.line.IndexedLine.{IndexedLine}
use Rattle.tp_judge.specs.declared.replaying.Replayed.{Replayed}
use Rattle.tp_judge.specs.declared.replaying.Replayed.TheVariants as replayed
use Rattle.tp_judge.specs.Rules.{history_of, IsBroken}

-- the queue after the lines, whose history is lawful, or the first line that isn't lawful
abbrev pub IsReplay : List IndexedLine → Replayed → Type 0
IsReplay events (replayed.Lawful queue) = StandsFor queue (history_of events)
IsReplay events (replayed.Unlawful place) = IsBroken events place
