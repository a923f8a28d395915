-- What is started is judged by the types of `mtc` and of the components that are made.
use Rattle.tp_checks.specs.{Refused.Tells, BrokenStarts.StartBreaksAmong, Sorted.functions_in, Starting.type_names_of}
use Rattle.tp_checks.proofs.ModuleFaultPropagation.{handed, tells_memory}
use Rattle.tp_checks.proofs.starting.start_all.Goals as goal

pub returns-clause-started : goal.returns-clause-started
returns-clause-started c = rw (← c.in_ok-types.ensures.types, ← c.deref.ensures.value, ← c.as_slice.ensures) c.check_each.ensures.started

pub returns-clause-names : goal.returns-clause-names
returns-clause-names c = rw (← c.as_slice.ensures) c.check_each.ensures.names

pub returns-in_err-types-clause-told : goal.returns-in_err-types-clause-told
returns-in_err-types-clause-told c = λ few.
    let P = StartBreaksAmong (functions_in c.args.sorted.now) c.args.names.now (type_names_of c.args.case.now) c.args.case.now.starts in
    handed (Tells P) c.from_residual.result _ c.from_residual.ensures.1 (tells_memory P c.in_err-types.field-0.0 c.in_err-types.ensures.refused)

pub returns-clause-told : goal.returns-clause-told
returns-clause-told c = λ few.
    rw (← c.in_ok-types.ensures.types, ← c.deref.ensures.value, ← c.as_slice.ensures) (c.check_each.ensures.told few)
