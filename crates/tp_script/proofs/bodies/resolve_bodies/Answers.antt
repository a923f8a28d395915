-- The body that is refused is the test case's own, or else that of a function.
use Rattle.tp_checks.specs.Refused.{Tells}
use Rattle.tp_checks.proofs.{ModuleFaultPropagation.handed, RuleFaultPropagation.told_on}
use Rattle.tp_script.specs.BrokenModules.{BodiesBreak, FunctionsBreak, MainBreaks, in_function, in_main}
use Rattle.tp_script.specs.Instances.{known_in}
use Rattle.tp_script.proofs.bodies.resolve_bodies.Goals as goal

pub returns-in_err-main-clause-told : goal.returns-in_err-main-clause-told
returns-in_err-main-clause-told c = λ sound own can run.
    let p = c.args.prepared.now in
    let P = BodiesBreak (known_in p) p.case.case.now p.case.line c.args.parsed.now.definitions in
    handed (Tells P) c.from_residual.result _ c.from_residual.ensures.1
    (told_on (MainBreaks (known_in p) p.case.case.now p.case.line) P c.in_err-main.field-0.0 (λ rule line b. in_main rule line b)
    (c.in_err-main.ensures.told sound can))

pub returns-in_err-functions-clause-told : goal.returns-in_err-functions-clause-told
returns-in_err-functions-clause-told c = λ sound own can run.
    let p = c.args.prepared.now in
    let items = c.args.parsed.now.definitions in
    let P = BodiesBreak (known_in p) p.case.case.now p.case.line items in
    handed (Tells P) c.from_residual-in_err-functions.result _ c.from_residual-in_err-functions.ensures.1
    (told_on (FunctionsBreak (known_in p) items) P c.in_err-functions.field-0.0
    (λ rule line b. in_function c.in_ok-main.main rule line c.in_ok-main.ensures.body b)
    (rw c.as_slice.ensures at (c.in_err-functions.ensures.told sound (rw c.as_slice.ensures own) (rw c.as_slice.ensures run))))
