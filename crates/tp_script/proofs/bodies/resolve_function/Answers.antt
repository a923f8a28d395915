-- A function whose body is refused has none.
use Rattle.std.proofs.Common.{◌∙◌, ap, map}
use Rattle.tp_checks.specs.{Definitions.declared, Scoping.visible_in, Refused.Tells, Tables.IsNumbered}
use Rattle.tp_script.specs.{Instances.known_in, Scopes.plays_of, BrokenModules.FunctionBreaks}
use Rattle.tp_checks.proofs.ModuleFaultPropagation.{handed, memory_left, tells_memory}
use Rattle.tp_script.proofs.ModuleFaultsTold.{body_told}
use Rattle.tp_script.proofs.bodies.resolve_function.Goals as goal

pub returns-in_err-parameters-clause-told : goal.returns-in_err-parameters-clause-told
returns-in_err-parameters-clause-told c = λ sound own can.
    let f = c.args.function.now in
    let P = FunctionBreaks (known_in c.args.prepared.now) f c.args.line in
    handed (Tells P) c.from_residual.result _ c.from_residual.ensures.1
    (tells_memory P c.in_err-parameters.field-0.0
    (memory_left (IsNumbered (map (λ p. declared p.name) f.parameters)) c.in_err-parameters.field-0.0
    (rw c.as_slice.ensures at c.in_err-parameters.ensures.refused) own))

pub returns-in_err-scope-clause-told : goal.returns-in_err-scope-clause-told
returns-in_err-scope-clause-told c = λ sound own can.
    handed (Tells (FunctionBreaks (known_in c.args.prepared.now) c.args.function.now c.args.line)) c.from_residual-in_err-scope.result _
    c.from_residual-in_err-scope.ensures.1 (absurd (c.in_err-scope.ensures.unknown (rw c.as_str-runs_on.ensures can)))

pub returns-clause-told : goal.returns-clause-told
returns-clause-told c = λ sound own can.
    let f = c.args.function.now in
    body_told (known_in c.args.prepared.now) c.plays.result (plays_of f) c.as_str-runs_on.result.now f.runs_on c.in_ok-parameters.parameters
    (map (λ p. declared p.name) f.parameters) c.args.line (visible_in c.in_ok-scope.scope) c.as_slice-2.result.now f.variables c.as_slice-3.result.now
    f.statements c.resolve_body.result c.plays.ensures c.as_str-runs_on.ensures
    (c.in_ok-parameters.ensures.names ∙ ap (map (λ p. declared p.name)) c.as_slice.ensures) c.as_slice-2.ensures c.as_slice-3.ensures sound
    c.in_ok-scope.ensures.scope c.resolve_body.ensures.told
