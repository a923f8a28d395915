-- What the rule of the queue says of a sender's routes.
use Rattle.tp_inbox.proofs.SenderPutInvariants.{ways_aimed, ways_apart}
use Rattle.tp_inbox.proofs.sender.Sender.ways.Goals as goal

pub returns-clause-aimed : goal.returns-clause-aimed
returns-clause-aimed c = ways_aimed c.self.inside _ c.self.invariant c.self.view_is

pub returns-clause-apart : goal.returns-clause-apart
returns-clause-apart c = ways_apart c.self.inside _ c.self.invariant c.self.view_is
