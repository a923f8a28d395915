-- Where there is a `system` clause, one component is added, of the type after it.
use Rattle.std.proofs.Common.{[]}
use Rattle.tp_checks.specs.Components.{CanAdd, interface}
use Rattle.tp_checks.proofs.{AddableComponents.interface_is, AddableComponents.only_one, ModuleRefusalPropagation.handed_on}
use Rattle.tp_checks.proofs.CreatedComponentGrowth.{adds_more, adds_none}
use Rattle.tp_checks.proofs.components.add_interface.Goals as goal

pub returns-clause-added : goal.returns-clause-added
returns-clause-added c =
    rw c.in-Some.is
    (adds_more c.args.types.now [] _ c.args.config.now c.args.config.now c.add_component.new.config (adds_none c.args.types.now c.args.config.now)
    (rw c.as_str.ensures at c.in_ok-number.ensures.added))

pub returns-in_err-number-clause-refused : goal.returns-in_err-number-clause-refused
returns-in_err-number-clause-refused c =
    handed_on c.from_residual.result _ c.from_residual.ensures.1 c.in_err-number.ensures.refused
    (λ each. rw c.as_str.ensures
    (only_one (λ x. CanAdd c.args.types.now x c.args.config.now) (interface c.args.case.now) _
    (interface_is c.args.case.now c.in-Some.system c.in-Some.is) each))
