-- The port is known, and the parts before the first one that breaks a rule obey theirs.
use Rattle.tp_checks.specs.BrokenOperations as b
use Rattle.tp_checks.proofs.RuleFaultPropagation.{tells_at}
use Rattle.tp_checks.proofs.operations.resolve_receive.Goals as goal

pub returns-in_err-wanted-clause-told : goal.returns-in_err-wanted-clause-told
returns-in_err-wanted-clause-told c = λ sound typed.
    tells_at _ _ _ c.from_residual.result _ c.from_residual.ensures.1
    (λ r broken. b.wanted c.in-Some.place c.in-Some.port.now r (rw c.as_str.ensures at c.in-Some.ensures.there) broken)
    (rw c.receivable-receivable.ensures at (c.in_err-wanted.ensures.told sound))

pub returns-in_err-sender-clause-told : goal.returns-in_err-sender-clause-told
returns-in_err-sender-clause-told c = λ sound typed.
    tells_at _ _ _ c.from_residual-in_err-sender.result _ c.from_residual-in_err-sender.ensures.1
    (λ r broken. b.from c.in-Some.place c.in-Some.port.now c.in_ok-wanted.wanted r (rw c.as_str.ensures at c.in-Some.ensures.there)
    (rw c.receivable-receivable.ensures at c.in_ok-wanted.ensures.stands) broken)
    c.in_err-sender.ensures.told

pub returns-in_err-value_to-clause-told : goal.returns-in_err-value_to-clause-told
returns-in_err-value_to-clause-told c = λ sound typed.
    tells_at _ _ _ c.from_residual-in_err-value_to.result _ c.from_residual-in_err-value_to.ensures.1
    (λ r broken. b.value_target c.in-Some.place c.in-Some.port.now c.in_ok-wanted.wanted c.in_ok-sender.sender r
    (rw c.as_str.ensures at c.in-Some.ensures.there) (rw c.receivable-receivable.ensures at c.in_ok-wanted.ensures.stands)
    c.in_ok-sender.ensures.stands broken)
    (c.in_err-value_to.ensures.told typed)

pub returns-in_err-sender_to-clause-told : goal.returns-in_err-sender_to-clause-told
returns-in_err-sender_to-clause-told c = λ sound typed.
    tells_at _ _ _ c.from_residual-in_err-sender_to.result _ c.from_residual-in_err-sender_to.ensures.1
    (λ r broken. b.sender_target c.in-Some.place c.in-Some.port.now c.in_ok-wanted.wanted c.in_ok-sender.sender c.in_ok-value_to.value_to r
    (rw c.as_str.ensures at c.in-Some.ensures.there) (rw c.receivable-receivable.ensures at c.in_ok-wanted.ensures.stands)
    c.in_ok-sender.ensures.stands c.in_ok-value_to.ensures.stands broken)
    (c.in_err-sender_to.ensures.told typed)
