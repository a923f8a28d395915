-- What is taken out is the top, and the port's queue stands for the port's history with it at its end.
use Rattle.std.proofs.Common.{ap, refl, arith, ◌≡◌, ◌<◌, ◌∷◌, ◌++◌, [], List, length}
use Rattle.std.proofs.lemmas.List.{length-set}
use Rattle.tp_common.specs.declared.event.Event.{Event}
use Rattle.tp_common.specs.declared.event.Event.TheVariants as event
use Rattle.tp_queue.specs.Queues.{StandsFor}
use Rattle.tp_value.specs.declared.message.Message.{Message}
use Rattle.tp_inbox.specs.declared.entry.Entry.TheVariants as entry
use Rattle.tp_inbox.specs.Desks.{Journal, at_port}
use Rattle.tp_inbox.proofs.PortQueuesMatchLog.{adding_is, grown_by, kept_at, stands_in}
use Rattle.tp_inbox.proofs.desk.Desk.trigger.Goals as goal
use Rattle.tp_inbox.proofs.desk.Desk.trigger.Goals.{After-push_reserved, After-push_reserved-in-Dropped}

took : (g : _) (c : After-push_reserved g)
    → c.push_reserved.new.self.items ≡ c.self.inside.log.items ++ entry.Took c.args.port c.args.branch c.in-Took.env ∷ []
took g c =
    grown_by _ _ _ _ _ c.push_reserved.ensures.items c.reserve_entry.ensures.items
    (λ i. entry.Took (c.in_ok-place.ensures.ok.0 i) (c.in_ok-place.ensures.ok.1 i) (c.of-noted.ensures i))

dropped : (g : _) (c : After-push_reserved-in-Dropped g)
    → c.push_reserved-in-Dropped.new.self.items ≡ c.self.inside.log.items ++ entry.Dropped c.args.port c.args.branch c.in-Dropped.env ∷ []
dropped g c =
    grown_by _ _ _ _ _ c.push_reserved-in-Dropped.ensures.items c.reserve_entry.ensures.items
    (λ i. entry.Dropped (c.in_ok-place.ensures.ok.0 i) (c.in_ok-place.ensures.ok.1 i) (c.of-noted-in-Dropped.ensures i))

pub invariant_of-self-in-Took : goal.invariant_of-self-in-Took
invariant_of-self-in-Took g c =
    let low : c.args.port < length c.self.inside.ports.items = omega (arith, c.requires, ap (λ (d : Journal). d.ports) c.self.view_is) in
    kept_at _ _ _ _ c.args.port (entry.Took c.args.port c.args.branch c.in-Took.env) (event.Took c.in-Took.env) _ _ c.self.invariant
    low c.index_mut-queue.ensures.value (λ h s. (c.in-Took.ensures h s).1) (λ p. refl) tt refl (took g c)

pub returns-in-Took-clause-ok : goal.returns-in-Took-clause-ok
returns-in-Took-clause-ok g c =
    let low : c.args.port < length c.self.inside.ports.items = omega (arith, c.requires, ap (λ (d : Journal). d.ports) c.self.view_is) in
    let h : List (Event Message) = at_port c.args.self.now c.args.port in
    let s : StandsFor c.index_mut-queue.result.now h =
    stands_in _ _ _ c.args.port _ _ _ c.self.invariant low c.index_mut-queue.ensures.value c.self.view_is refl in (
      c.in-Took.env,
      (c.in-Took.ensures h s).0,
      adding_is _ _ _ _ _ c.self.view_is (length-set c.self.inside.ports.items c.args.port c.trigger.new.self) (took g c),
    )

pub invariant_of-self-in-Dropped : goal.invariant_of-self-in-Dropped
invariant_of-self-in-Dropped g c =
    let low : c.args.port < length c.self.inside.ports.items = omega (arith, c.requires, ap (λ (d : Journal). d.ports) c.self.view_is) in
    kept_at _ _ _ _ c.args.port (entry.Dropped c.args.port c.args.branch c.in-Dropped.env) (event.Dropped c.in-Dropped.env) _ _ c.self.invariant
    low c.index_mut-queue.ensures.value (λ h s. (c.in-Dropped.ensures h s).2) (λ p. refl) tt refl (dropped g c)

pub returns-in-Dropped-clause-ok : goal.returns-in-Dropped-clause-ok
returns-in-Dropped-clause-ok g c =
    let low : c.args.port < length c.self.inside.ports.items = omega (arith, c.requires, ap (λ (d : Journal). d.ports) c.self.view_is) in
    let h : List (Event Message) = at_port c.args.self.now c.args.port in
    let s : StandsFor c.index_mut-queue.result.now h =
    stands_in _ _ _ c.args.port _ _ _ c.self.invariant low c.index_mut-queue.ensures.value c.self.view_is refl in (
      c.in-Dropped.env,
      (c.in-Dropped.ensures h s).0,
      (c.in-Dropped.ensures h s).1,
      adding_is _ _ _ _ _ c.self.view_is (length-set c.self.inside.ports.items c.args.port c.trigger.new.self) (dropped g c),
    )
