-- A number stands where another type is wanted.
use Rattle.tp_checks.specs.BrokenTemplates as b
use Rattle.tp_checks.proofs.RuleFaultPropagation.{tells_rule}
use Rattle.tp_checks.proofs.templates.resolve_number.Goals as goal

pub returns-in_err-check_type-clause-told : goal.returns-in_err-check_type-clause-told
returns-in_err-check_type-clause-told c =
    tells_rule _ _ _ c.from_residual.result _ c.from_residual.ensures.1 c.in_err-check_type.ensures.err
    (b.no_integer c.args.ty c.args.number.now c.in_err-check_type.ensures.other)
