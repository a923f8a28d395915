-- What is taken out is the top; to the queue it is one whether it was received or discarded.
use Rattle.std.proofs.Common.{refl, true, false}
use Rattle.tp_judge.proofs.BrokenPortReplays.{taken_out}
use Rattle.tp_judge.proofs.replaying.take_out.Goals as goal

pub returns-clause-took : goal.returns-clause-took
returns-clause-took c h s =
    taken_out h _ _ _ true ((c.if-not-is_top.ensures h s).0 refl) (c.take_top.ensures h s)

pub returns-clause-dropped : goal.returns-clause-dropped
returns-clause-dropped c h s =
    taken_out h _ _ _ false ((c.if-not-is_top.ensures h s).0 refl) (c.take_top.ensures h s)
