-- The next definition is no function, or its body stands after the others.
use Rattle.std.proofs.Common.{arith, sym, subst}
use Rattle.std.specs.List.{AllZip}
use Rattle.tp_script.specs.{Instances.known_in, Scopes.IsFunctionBody, BrokenModules.FunctionsBreak}
use Rattle.tp_script.proofs.FunctionBodyGrowth.{no_function, one_function, own_parameters}
use Rattle.tp_script.proofs.ModuleFaultsTold.{can_run, function_told}
use Rattle.tp_checks.specs.Refused.{Tells}
use Rattle.tp_checks.proofs.ModuleFaultPropagation.{handed}
use Rattle.tp_script.proofs.bodies.resolve_functions.Goals as goal

pub loop-definition-preserved-in_default : goal.loop-definition-preserved-in_default
loop-definition-preserved-in_default c =
    no_function (IsFunctionBody (known_in c.args.prepared.now)) c.args.definitions.now c.loop-definition.bodies.items c.loop-definition.definition-index
    c.definition-item.result (omega arith) c.definition-item.is
    c.loop-definition.invariant c.in_default.ensures

pub loop-definition-preserved : goal.loop-definition-preserved
loop-definition-preserved c =
    subst (AllZip (IsFunctionBody (known_in c.args.prepared.now)) _) (sym c.in_ok-push.ensures.items)
    (one_function (IsFunctionBody (known_in c.args.prepared.now)) c.args.definitions.now c.loop-definition.bodies.items c.loop-definition.definition-index
    c.definition-item.result (omega arith) c.definition-item.is
    c.loop-definition.invariant c.in-Some.function.now c.in_ok-body.body c.in-Some.ensures c.in_ok-body.ensures.body)

pub returns-in_err-body-clause-told : goal.returns-in_err-body-clause-told
returns-in_err-body-clause-told c = λ sound own run.
    let known = known_in c.args.prepared.now in
    let xs = c.args.definitions.now in
    let i = c.loop-definition.definition-index in
    let x = c.definition-item.result in
    let f = c.in-Some.function.now in
    let fault = c.in_err-body.field-0.0 in
    handed (Tells (FunctionsBreak known xs)) c.from_residual.result fault c.from_residual.ensures.1
    (function_told known xs i x f (omega arith) c.definition-item.is c.in-Some.ensures c.loop-definition.bodies.items fault c.loop-definition.invariant
    (c.in_err-body.ensures.told sound (own_parameters known xs i x f (omega arith) c.definition-item.is c.in-Some.ensures own)
    (can_run known xs i x f (omega arith) c.definition-item.is c.in-Some.ensures run)))
