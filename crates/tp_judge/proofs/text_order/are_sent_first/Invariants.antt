-- On the routes so far each sending stands before its arrival.
use Rattle.std.proofs.Common.{ℕ, ◌<◌}
use Rattle.tp_judge.specs.TextOrder.{AreSentFirst}
use Rattle.tp_judge.proofs.text_order.are_sent_first.Given as goal

abbrev pub invariant-loop-route : goal.invariant-loop-route
invariant-loop-route l = (route : ℕ) → route < l.route → AreSentFirst l.trace route
