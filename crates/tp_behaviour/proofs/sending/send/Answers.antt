-- The port may send where it is started, and fails with 40 where it isn't.
use Rattle.std.proofs.Common.{◌∙◌, ap, refl, sym, true≢false}
use Rattle.tp_queue.specs.Queues.{QueueState}
use Rattle.tp_value.specs.declared.message.Message.{Message}
use Rattle.tp_behaviour.specs.BehaviourEnds.{IsFailure}
use Rattle.tp_behaviour.proofs.sending.send.Goals as goal

pub send_started-requires-clause-started : goal.send_started-requires-clause-started
send_started-requires-clause-started g c _ _ =
    sym (ap (λ (q : QueueState Message). q.status) c.queue.ensures.state) ∙ c.if-may_send.ensures.0 refl

pub fail-requires-clause-cause : goal.fail-requires-clause-cause
fail-requires-clause-cause g c =
    IsFailure.not_started
    (λ started. true≢false (sym (c.if-may_send.ensures.1 (ap (λ (q : QueueState Message). q.status) c.queue.ensures.state ∙ started))))
