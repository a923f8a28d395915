-- Both are what is of the route among what went from the one to the other.
use Rattle.std.proofs.Common.{◌∙◌, ap, sym}
use Rattle.tp_config.specs.declared.port_type.CompId.{CompId}
use Rattle.tp_inbox.specs.History.{arrived_from, posted_on}
use Rattle.tp_inbox.proofs.ComponentMessagesByRoute.{came_on, sent_by_routes}
use Rattle.tp_exec.proofs.laws.routes_follow.Goals as goal

pub returns : goal.returns
returns c from to sent came r is source here =
    sym (sent_by_routes to r here sent) ∙ ap (posted_on r) is
    ∙ ap (λ (s : CompId). posted_on r (arrived_from to s came)) (sym source) ∙ came_on to r here came
