-- An envelope arrives at a port that there is.
use Rattle.std.proofs.Common.{◌≡◌, ◌∙◌, ap}
use Rattle.tp_inbox.specs.declared.entry.Entry.{Entry}
use Rattle.tp_inbox.specs.declared.entry.Entry.TheVariants as entry
use Rattle.tp_inbox.specs.Desks.{adding}
use Rattle.tp_inbox.specs.Routed.{arrival_of}
use Rattle.tp_inbox.proofs.OwnerDrainedEnvelopes.{port_within}
use Rattle.tp_inbox.proofs.owner.deliver.Goals as goal

pub arrive-requires : goal.arrive-requires
arrive-requires c =
    port_within c.args.channel.now c.args.desk.now c.args.envelope.place _ c.requires.ports c.requires.place c.addressed-port.ensures.port

pub returns-in-Ok-clause-ok : goal.returns-in-Ok-clause-ok
returns-in-Ok-clause-ok c =
    let e = c.addressed-port.ensures in
    let is : entry.Arrive c.addressed-port.result.0 c.addressed-port.result.2 c.addressed-port.result.1
    ≡ arrival_of c.args.channel.now.routes.items c.args.envelope = λ i. entry.Arrive (e.port i) (e.stamp i) (e.env i) in
    (c.requires.hand, c.in-Ok.ensures.ok ∙ ap (λ (x : Entry). adding c.args.desk.now x) is)
