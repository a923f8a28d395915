-- What is taken out is what was found, and the port's queue stands for the port's history with it at its end.
use Rattle.std.proofs.Common.{ap, refl, arith, sym, subst, ◌≡◌, ◌<◌, ◌∷◌, ◌++◌, [], true, List, length}
use Rattle.std.proofs.lemmas.List.{length-set}
use Rattle.std.proofs.lemmas.Option.{same_Some}
use Rattle.tp_common.specs.declared.event.Event.{Event}
use Rattle.tp_common.specs.declared.event.Event.TheVariants as event
use Rattle.tp_queue.specs.Answers.{Finds}
use Rattle.tp_queue.specs.Queues.{StandsFor}
use Rattle.tp_value.specs.declared.message.Message.{Message}
use Rattle.tp_inbox.specs.declared.entry.Entry.TheVariants as entry
use Rattle.tp_inbox.specs.Desks.{Journal, at_port}
use Rattle.tp_inbox.proofs.PortQueuesMatchLog.{adding_is, grown_by, kept_at, stands_in, taken_is}
use Rattle.tp_inbox.proofs.desk.Desk.receive.Goals as goal
use Rattle.tp_inbox.proofs.desk.Desk.receive.Goals.{After-push_reserved}

port_is : (g : _) (c : After-push_reserved g) → c.args.port < length c.self.inside.ports.items
port_is g c = omega (arith, c.requires, ap (λ (d : Journal). d.ports) c.self.view_is)

log_is : (g : _) (c : After-push_reserved g)
    → c.push_reserved.new.self.items ≡ c.self.inside.log.items ++ entry.Took c.args.port c.args.branch c.in-Some-take_top.env ∷ []
log_is g c =
    grown_by _ _ _ _ _ c.push_reserved.ensures.items c.reserve_entry.ensures.items
    (λ i. entry.Took (c.in_ok-place.ensures.ok.0 i) (c.in_ok-place.ensures.ok.1 i) (c.of-noted.ensures i))

pub invariant_of-self-2 : goal.invariant_of-self-2
invariant_of-self-2 g c =
    kept_at _ _ _ _ c.args.port (entry.Took c.args.port c.args.branch c.in-Some-take_top.env) (event.Took c.in-Some-take_top.env) _ _ c.self.invariant
    (port_is g c) c.index_mut-queue.ensures.value (λ h s. (c.in-Some-take_top.ensures h s).1 true) (λ p. refl) tt refl (log_is g c)

pub returns-clause-ok : goal.returns-clause-ok
returns-clause-ok g c =
    let admits = g.W.Wanted.admits c.args.wanted.now in
    let h : List (Event Message) = at_port c.args.self.now c.args.port in
    let s : StandsFor c.index_mut-queue.result.now h =
    stands_in _ _ _ c.args.port _ _ _ c.self.invariant (port_is g c) c.index_mut-queue.ensures.value c.self.view_is refl in
    let found : Finds admits c.args.from h c.in-Some.env.now = c.in-Some.ensures.found h s in
    let same : c.in-Some-take_top.env ≡ c.in-Some.env.now =
    same_Some _ _ (taken_is admits c.args.from h _ _ _ found (c.in-Some-take_top.ensures h s)).0 in (
      c.in-Some-take_top.env,
      subst (Finds admits c.args.from h) (sym same) found,
      adding_is _ _ _ _ _ c.self.view_is (length-set c.self.inside.ports.items c.args.port c.take_top.new.self) (log_is g c),
    )
