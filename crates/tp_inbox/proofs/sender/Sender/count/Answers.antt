-- What is counted for a route is what was put on it.
use Rattle.std.proofs.Common.{◌<◌, length, refl, arith}
use Rattle.std.proofs.lemmas.List.{get_or_read_under}
use Rattle.tp_inbox.proofs.SenderPutInvariants.{told_at, on_way}
use Rattle.tp_inbox.proofs.sender.Sender.count.Goals as goal

pub returns : goal.returns
returns c =
    let k = on_way c.self.inside _ c.args.way c.self.invariant c.self.view_is c.requires in
    let low : c.args.way < length c.self.inside.counts.items = omega (arith, k.0, c.self.invariant.counts.0) in
    told_at c.self.inside _ c.args.way _ c.self.invariant c.self.view_is c.requires
    (get_or_read_under c.self.inside.counts.items c.args.way _ _ 0 c.index.ensures low refl)
