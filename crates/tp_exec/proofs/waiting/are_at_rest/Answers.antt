-- The next component is at rest.
use Rattle.tp_exec.specs.Reporting.{IsAtRest}
use Rattle.tp_exec.proofs.OpenBranchConditions.{passes}
use Rattle.tp_exec.proofs.waiting.are_at_rest.Goals as goal

pub loop-component-preserved : goal.loop-component-preserved
loop-component-preserved c =
    passes IsAtRest c.args.components.now c.loop-component.component-index c.component-item.result c.loop-component-test.true c.component-item.is
    (c.is_at_rest.ensures.0 c.if-not-is_at_rest.false) c.loop-component.invariant
