-- The first port of the component named gives the route to it; with none there is no such route.
use Rattle.std.proofs.Common.{◌∙◌, sym}
use Rattle.tp_config.proofs.RouteSearchOutcomes.{found_to, none_to}
use Rattle.tp_config.proofs.routes.choose_route.Goals as goal

pub returns-in-Some-port_beside-clause-route : goal.returns-in-Some-port_beside-clause-route
returns-in-Some-port_beside-clause-route c = rw (c.in-Some.is) (found_to c.args.p _ _ _ (sym c.in-Some-port_beside.is ∙ c.port_beside.ensures))

pub returns-in-None-port_beside-clause-route : goal.returns-in-None-port_beside-clause-route
returns-in-None-port_beside-clause-route c = rw (c.in-Some.is) (none_to c.args.p _ _ (sym c.in-None-port_beside.is ∙ c.port_beside.ensures))
