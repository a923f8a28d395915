-- A sender that has put more is still the inbox's.
use Rattle.std.proofs.Common.{◌<◌, length, arith}
use Rattle.tp_inbox.proofs.SenderListGrowth.{senders_set}
use Rattle.tp_tests.proofs.ends.InboxEnds.put.Goals as goal

pub invariant_of-self : goal.invariant_of-self
invariant_of-self g c =
    let low : c.args.place < length c.self.inside.senders.items = omega (arith, c.self.inside.senders.ok.0) in
    senders_set _ _ c.args.place _ _ c.self.invariant low c.index_mut.ensures.value c.put.ensures.same
