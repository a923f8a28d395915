-- The port is known, and what is sent breaks a rule, or the component after `to` does.
use Rattle.tp_checks.specs.BrokenOperations as b
use Rattle.tp_checks.proofs.RuleFaultPropagation.{tells_at}
use Rattle.tp_checks.proofs.operations.resolve_send.Goals as goal

pub returns-in_err-sent-clause-told : goal.returns-in_err-sent-clause-told
returns-in_err-sent-clause-told c = λ sound typed.
    tells_at _ _ _ c.from_residual.result _ c.from_residual.ensures.1
    (λ r broken. b.sent c.in-Some.place c.in-Some.port.now r (rw c.as_str.ensures at c.in-Some.ensures.there) broken)
    (rw c.sendable-sendable.ensures at (c.in_err-sent.ensures.told sound typed))

pub returns-in_err-to-clause-told : goal.returns-in_err-to-clause-told
returns-in_err-to-clause-told c = λ sound typed.
    tells_at _ _ _ c.from_residual-in_err-to.result _ c.from_residual-in_err-to.ensures.1
    (λ r broken. b.receiver c.in-Some.place c.in-Some.port.now c.in_ok-sent.sent r (rw c.as_str.ensures at c.in-Some.ensures.there)
    (rw c.sendable-sendable.ensures at c.in_ok-sent.ensures.stands) broken)
    (c.in_err-to.ensures.told typed)
