-- The name after `value` is that of a variable of messages, of the template's type.
use Rattle.std.proofs.Common.{◌≡◌}
use Rattle.tp_checks.specs.declared.fault.ModuleRule.TheVariants as rule
use Rattle.tp_checks.specs.BrokenOperations as b
use Rattle.tp_checks.proofs.RuleFaultPropagation.{tells_rule, told_rule}
use Rattle.tp_checks.proofs.operations.resolve_value_target.Goals as goal

pub returns-in_err-check_type-in-Of-clause-told : goal.returns-in_err-check_type-in-Of-clause-told
returns-in_err-check_type-in-Of-clause-told c = λ typed.
    tells_rule _ rule.WrongType _ c.from_residual-in_err-check_type-in-Of.result _ c.from_residual-in_err-check_type-in-Of.ensures.1 c.in_err-check_type-in-Of.ensures.err
    (rw c.in-Some.is (b.holds_other c.in-Some.name c.in_ok-place.place c.in_ok-place.held
    (rw c.as_str.ensures at c.in_ok-place.ensures.no_turn) (rw c.as_str.ensures at c.in_ok-place.ensures.held)
    (λ t e. let same : c.in-Of.ty ≡ c.in_ok-place.held = cc in c.in_err-check_type-in-Of.ensures.other same)))

pub returns-in-Any-clause-told : goal.returns-in-Any-clause-told
returns-in-Any-clause-told c = λ typed.
    told_rule _ rule.WrongType _ _ (cc) (rw c.in-Some.is (b.holds_other c.in-Some.name c.in_ok-place.place c.in_ok-place.held
    (rw c.as_str.ensures at c.in_ok-place.ensures.no_turn) (rw c.as_str.ensures at c.in_ok-place.ensures.held)
    (λ t e. absurd (cc))))
