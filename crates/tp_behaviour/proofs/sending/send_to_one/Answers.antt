-- A receiver that isn't set is the cause of the refusal.
use Rattle.std.proofs.Common.{inr}
use Rattle.tp_behaviour.specs.BehaviourEnds.{IsFailure}
use Rattle.tp_behaviour.proofs.sending.send_to_one.Goals as goal

pub fail-requires-clause-cause : goal.fail-requires-clause-cause
fail-requires-clause-cause g c = IsFailure.not_set c.requires.started (inr c.in-None.ensures)
