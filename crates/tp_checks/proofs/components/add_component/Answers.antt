-- A component is refused where the configuration can't have it.
use Rattle.tp_checks.specs.Components.{declared_as}
use Rattle.tp_checks.proofs.AddableComponents.{create_broken}
use Rattle.tp_checks.proofs.components.add_component.Goals as goal

pub returns-in-Err-clause-refused : goal.returns-in-Err-clause-refused
returns-in-Err-clause-refused c =
    create_broken c.args.types.now (declared_as c.args.component.now) c.args.config.now _ c.in-Some.kind c.in-Err.fault c.create_fault_at.result c.in_ok-name.ensures.ok c.in-Err.ensures.err.1
    c.create_fault_at.ensures.told
