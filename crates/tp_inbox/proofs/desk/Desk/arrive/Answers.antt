-- The port's queue stands for the port's history with the arrival at its end, and the clock keeps to it.
use Rattle.std.proofs.Common.{ap, refl, arith}
use Rattle.tp_common.specs.declared.event.Event.TheVariants as event
use Rattle.tp_inbox.specs.declared.entry.Entry.TheVariants as entry
use Rattle.tp_inbox.specs.Desks.{Journal}
use Rattle.tp_inbox.proofs.PortQueuesMatchLog.{kept_at_time, grown_by}
use Rattle.tp_inbox.proofs.desk.Desk.arrive.Goals as goal

pub invariant_of-self-2 : goal.invariant_of-self-2
invariant_of-self-2 c =
    kept_at_time _ _ _ _ _ c.args.port (entry.Arrive c.args.port c.args.stamp c.args.env) (event.Arrive c.args.env) _ _ c.self.invariant
    (omega (arith, c.requires, ap (λ (d : Journal). d.ports) c.self.view_is))
    c.index_mut.ensures.value c.in_ok-arrive.ensures.ok (λ p. refl) tt c.max-self-inside.ensures
    (grown_by _ _ _ _ _ c.push_reserved.ensures.items c.reserve_entry.ensures.items (λ i. entry.Arrive (c.in-Ok.ensures.1 i) c.args.stamp (c.in-Ok-copy_of.ensures.ok i)))
