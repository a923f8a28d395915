-- The port's queue stands for the port's history with the halt at its end.
use Rattle.std.proofs.Common.{ap, refl, arith}
use Rattle.tp_common.specs.declared.event.Event.TheVariants as event
use Rattle.tp_inbox.specs.declared.entry.Entry.TheVariants as entry
use Rattle.tp_inbox.specs.Desks.{Journal}
use Rattle.tp_inbox.proofs.PortQueuesMatchLog.{kept_at, grown_by}
use Rattle.tp_inbox.proofs.desk.Desk.halt.Goals as goal

pub invariant_of-self-2 : goal.invariant_of-self-2
invariant_of-self-2 c =
    kept_at _ _ _ _ c.args.port (entry.Halted c.args.port) event.Halted _ _ c.self.invariant
    (omega (arith, c.requires, ap (λ (d : Journal). d.ports) c.self.view_is))
    c.index_mut.ensures.value c.halt-ahead.ensures.after (λ p. refl) tt refl
    (grown_by _ _ _ _ _ c.push_reserved.ensures.items c.reserve_entry.ensures.items refl)
