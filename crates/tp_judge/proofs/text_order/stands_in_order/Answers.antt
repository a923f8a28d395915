-- Nothing happens before itself where all happens in the order of the text.
use Rattle.std.proofs.Common.{subst}
use Rattle.tp_judge.specs.TextOrder.{AreAscending}
use Rattle.tp_judge.proofs.TextOrderWithoutCircle.{ahead_no_circle}
use Rattle.tp_judge.proofs.text_order.stands_in_order.Goals as goal

pub returns : goal.returns
returns c = λ is.
    ahead_no_circle c.args.trace.now c.requires.delivered
    (subst AreAscending c.deref.ensures.value (c.are_ascending.ensures c.if-not-are_ascending.false)) (c.are_sent_first.ensures is)
