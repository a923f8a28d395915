-- New queues stand for the history in which nothing has happened.
use Rattle.std.proofs.Common.{ap, ◌∙◌}
use Rattle.tp_inbox.specs.History.{arrivals}
use Rattle.tp_inbox.proofs.HistoryClockGrowth.{arrivals_none}
use Rattle.tp_inbox.proofs.PortQueuesMatchLog.{kept_at_start}
use Rattle.tp_inbox.proofs.desk.Desk.with_ports.Goals as goal

pub invariant_of-result : goal.invariant_of-result
invariant_of-result c = kept_at_start _ _ c.loop.counter c.loop.invariant.ports c.new-2.ensures.items

pub returns-clause-none : goal.returns-clause-none
returns-clause-none c = ap arrivals c.new-2.ensures.items ∙ arrivals_none
