-- What is sent can be made or isn't set, and whoever is named is one component.
use Rattle.std.proofs.Common.{◌≡◌, Option, Some, None, inl, refl}
use Rattle.std.specs.Prelude.{MatchOption}
use Rattle.tp_behaviour.specs.BehaviourEnds.{IsFailure}
use Rattle.tp_behaviour.specs.Outcomes.{depth_of, stage_at}
use Rattle.tp_behaviour.proofs.ValuesHeldByVariables.{can_fill, can_name}
use Rattle.tp_behaviour.proofs.sending.send_started.Goals as goal

pub message_of-requires : goal.message_of-requires
message_of-requires g c =
    can_fill (stage_at c.args.execution.now.task.now) (depth_of c.args.frame.now) c.args.frame.now.variables.items c.args.sending.now.sent c.requires.held
    c.requires.can.sent

unset : {X : Type 0} (o : Option X) (U : Type 0) (P : X → Type 0) → MatchOption o U P → ((x : X) → o ≡ Some x → ⊥) → U
unset None U P h none = h
unset (Some x) U P h none = absurd (none x refl)

pub fail-requires-clause-cause : goal.fail-requires-clause-cause
fail-requires-clause-cause g c = IsFailure.not_set c.requires.started (inl (unset c.in_ok-message.field-0 _ _ c.in_ok-message.ensures c.in_default.not-Some))

pub send_to_one-requires-clause-names : goal.send_to_one-requires-clause-names
send_to_one-requires-clause-names g c κs within =
    can_name (stage_at c.args.execution.now.task.now) c.args.frame.now.variables.items c.args.sending.now.to c.requires.held c.requires.can.to
    c.in_default-to.not-All
