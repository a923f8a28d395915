-- That the top is found changes nothing.
use Rattle.std.proofs.Common.{refl}
use Rattle.tp_queue.proofs.QueueStateTransitions.{found_stands}
use Rattle.tp_judge.proofs.replaying.find.Goals as goal

pub returns : goal.returns
returns c h s = found_stands c.args.queue.now h _ s ((c.if-not-is_top.ensures h s).0 refl)
