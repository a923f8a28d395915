-- A component that waits is at rest where none of its branches is open.
use Rattle.tp_exec.proofs.OpenBranchConditions.{rest_as}
use Rattle.tp_exec.proofs.waiting.is_at_rest.Goals as goal

pub returns-in-Waiting : goal.returns-in-Waiting
returns-in-Waiting c =
    rest_as c.args.component.now.desk.log c.args.component.now.outcome c.in-Waiting.guards c.as_slice.result.now c.none_open.result
    c.in-Waiting.is c.as_slice.ensures.value c.none_open.ensures
