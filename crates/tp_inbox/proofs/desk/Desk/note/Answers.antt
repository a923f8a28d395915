-- An entry that names no port leaves the queues as they are, and the clock takes its stamp.
use Rattle.std.proofs.Common.{◌∙◌, ap, max, refl, subst, sym}
use Rattle.tp_inbox.specs.Desks.{Journal}
use Rattle.tp_inbox.specs.History.{IsTimely}
use Rattle.tp_inbox.proofs.PortQueuesMatchLog.{kept_by_note, grown_by}
use Rattle.tp_inbox.proofs.desk.Desk.note.Goals as goal

pub invariant_of-self-2 : goal.invariant_of-self-2
invariant_of-self-2 c =
    let timely = subst (λ (d : Journal). IsTimely d.log c.args.entry) (sym c.self.view_is) c.requires.timely in
    kept_by_note _ _ _ _ _ c.args.entry c.self.invariant c.requires.note timely
    (c.max-self-inside.ensures ∙ ap (max c.self.inside.clock) c.stamp.ensures)
    (grown_by _ _ _ _ _ c.push_reserved.ensures.items c.reserve_entry.ensures.items refl)
