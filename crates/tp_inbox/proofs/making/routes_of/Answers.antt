-- The routes of a configuration differ, and lead to ports of the component.
use Rattle.tp_inbox.proofs.NewInboxContents.{routes_are}
use Rattle.tp_inbox.proofs.making.routes_of.Goals as goal

pub returns-clause-are : goal.returns-clause-are
returns-clause-are c = routes_are c.args.config.now c.args.comp _ c.in_ok-routes.ensures.routes c.in_ok-routes.ensures.distinct
