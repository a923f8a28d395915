-- The first bytes are written; a writer that had failed before has written nothing.
use Rattle.tp_common.proofs.WatchedWriterGrowth.{HasWritten}
use Rattle.tp_common.proofs.watched.write_rest.Given as goal

abbrev pub invariant-loop : goal.invariant-loop
invariant-loop g l = HasWritten g.W.Write.contents l.initial.out l.out l.bytes l.at
