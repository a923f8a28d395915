-- Each route is one of the senders', and its count is the one that is filed.
use Rattle.tp_exec.proofs.RouteMessageCounts.{all_filed, counted}
use Rattle.tp_exec.proofs.counting.count_all.Goals as goal

pub in_order-requires : goal.in_order-requires
in_order-requires c = all_filed c.args.senders.now c.args.routes.items c.in_ok-counts.counts c.in_ok-counts.ensures c.requires.theirs

pub returns-clause-counted : goal.returns-clause-counted
returns-clause-counted c =
    counted c.args.senders.now c.args.routes.items c.in_ok-all.all.items c.in_ok-counts.counts c.in_ok-counts.ensures c.in_ok-all.ensures.counts
    c.in_ok-all.ensures.routes
