-- The queue stands for the history of the lines so far.
use Rattle.std.proofs.Common.{take}
use Rattle.tp_queue.specs.Queues.{StandsFor}
use Rattle.tp_judge.specs.LinesByNumber.{lines_at}
use Rattle.tp_judge.specs.Rules.{history_of}
use Rattle.tp_judge.proofs.replaying.replay.Given as goal

abbrev pub invariant-loop-line : goal.invariant-loop-line
invariant-loop-line l = StandsFor l.queue (history_of (lines_at (take l.line-index l.events)))
