-- What is found stays in the port's queue, which stands for the port's history with that at its end.
use Rattle.std.proofs.Common.{ap, refl, arith, ◌<◌, List, length}
use Rattle.tp_common.specs.declared.event.Event.{Event}
use Rattle.tp_queue.specs.Queues.{StandsFor}
use Rattle.tp_value.specs.declared.message.Message.{Message}
use Rattle.tp_inbox.specs.declared.entry.Entry.TheVariants as entry
use Rattle.tp_inbox.specs.Desks.{Journal, at_port}
use Rattle.tp_inbox.proofs.PortQueuesMatchLog.{adding_is, grown_by, kept_by_find, stands_in}
use Rattle.tp_inbox.proofs.desk.Desk.check.Goals as goal

pub invariant_of-self-2 : goal.invariant_of-self-2
invariant_of-self-2 g c =
    kept_by_find _ _ _ _ c.args.port c.args.branch c.in-Some.env.now _ c.self.invariant
    (omega (arith, c.requires, ap (λ (d : Journal). d.ports) c.self.view_is)) c.index.ensures c.in-Some.ensures.after
    (grown_by _ _ _ _ _ c.push_reserved.ensures.items c.reserve_entry.ensures.items (λ i. entry.Found (c.in_ok-place.ensures.ok.0 i) (c.in_ok-place.ensures.ok.1 i) (c.in_ok-noted.ensures.ok i)))

pub returns : goal.returns
returns g c =
    let low : c.args.port < length c.self.inside.ports.items = omega (arith, c.requires, ap (λ (d : Journal). d.ports) c.self.view_is) in
    let h : List (Event Message) = at_port c.args.self.now c.args.port in
    let s : StandsFor c.index.result.now h = stands_in _ _ _ c.args.port _ _ _ c.self.invariant low c.index.ensures c.self.view_is refl in
    let grown =
    adding_is c.args.self.now _ _ _ (entry.Found c.args.port c.args.branch c.in-Some.env.now) c.self.view_is refl
    (grown_by _ _ _ _ _ c.push_reserved.ensures.items c.reserve_entry.ensures.items (λ i. entry.Found (c.in_ok-place.ensures.ok.0 i) (c.in_ok-place.ensures.ok.1 i) (c.in_ok-noted.ensures.ok i))) in
    ((refl, λ _. tt, grown), record { after = tt; found = c.in-Some.ensures.found h s })
