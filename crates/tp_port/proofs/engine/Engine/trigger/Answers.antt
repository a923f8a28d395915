-- What became of the top is in the history and in the answer, and the wanted sender is seen.
use Rattle.std.proofs.Common.{refl}
use Rattle.tp_port.specs.Command.{wish_of}
use Rattle.tp_port.proofs.ReplayedLineOutcomes.{carries_trigger}
use Rattle.tp_port.proofs.engine.Engine.trigger.Goals as goal

pub returns : goal.returns
returns c =
    carries_trigger _ _ (wish_of c.args.criteria) _ c.in_ok-from.ensures.seen c.in_ok-from.ensures.number
    c.in_ok-answer_trigger.ensures.history c.in_ok-answer_trigger.ensures.text c.in_ok-from.ensures.few refl
