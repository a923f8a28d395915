-- What was drained has arrived, by the owner's invariant.
use Rattle.tp_inbox.proofs.OwnerDrainedEnvelopes.{owner_arrivals}
use Rattle.tp_inbox.proofs.owner.Owner.is_current.Goals as goal

pub returns : goal.returns
returns c = owner_arrivals c.self.inside _ c.self.invariant c.self.view_is
