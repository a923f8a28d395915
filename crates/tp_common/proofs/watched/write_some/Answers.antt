-- The writer takes a front of the bytes, or nothing.
use Rattle.std.proofs.Common.{refl}
use Rattle.tp_common.proofs.WatchedWriterGrowth.{took_nothing, took_some, writes_nothing}
use Rattle.tp_common.proofs.watched.write_some.Goals as goal

pub returns-then-out-clause-written : goal.returns-then-out-clause-written
returns-then-out-clause-written g c = writes_nothing g.W.Write.contents _ _ refl

pub returns-in-Ok-clause-written : goal.returns-in-Ok-clause-written
returns-in-Ok-clause-written g c = took_some g.W.Write.contents _ _ _ c.if-out.false c.in-Ok.ensures.bytes

pub returns-in-Err-clause-written : goal.returns-in-Err-clause-written
returns-in-Err-clause-written g c = took_nothing g.W.Write.contents _ _ c.if-out.false c.in-Err.ensures.bytes
