-- A test case whose body is refused has none.
use Rattle.std.proofs.Common.{[], refl}
use Rattle.tp_checks.specs.declared.scope.BehaviourKind.TheVariants as behaviour_kind
use Rattle.tp_checks.specs.{Scoping.visible_in, Refused.Tells}
use Rattle.tp_script.specs.{Instances.known_in, BrokenModules.MainBreaks}
use Rattle.tp_checks.proofs.ModuleFaultPropagation.{handed}
use Rattle.tp_script.proofs.ModuleFaultsTold.{body_told}
use Rattle.tp_script.proofs.bodies.resolve_main.Goals as goal

pub returns-in_err-scope-clause-told : goal.returns-in_err-scope-clause-told
returns-in_err-scope-clause-told c = λ sound can.
    let p = c.args.prepared.now in
    handed (Tells (MainBreaks (known_in p) p.case.case.now p.case.line)) c.from_residual.result _ c.from_residual.ensures.1
    (absurd (c.in_err-scope.ensures.unknown (rw c.as_str-runs_on.ensures can)))

pub returns-clause-told : goal.returns-clause-told
returns-clause-told c = λ sound can.
    let p = c.args.prepared.now in
    let case = p.case.case.now in
    body_told (known_in p) behaviour_kind.TestCase behaviour_kind.TestCase c.as_str-runs_on.result.now case.runs_on c.new-parameters.result []
    p.case.line (visible_in c.in_ok-scope.scope) c.as_slice.result.now case.variables c.as_slice-2.result.now case.statements c.resolve_body.result refl
    c.as_str-runs_on.ensures c.new-parameters.ensures.empty c.as_slice.ensures c.as_slice-2.ensures sound c.in_ok-scope.ensures.scope
    c.resolve_body.ensures.told
