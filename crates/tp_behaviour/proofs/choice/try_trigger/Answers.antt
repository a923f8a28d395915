-- A `trigger` takes what it wants, and discards a message only where its top is not what it wants.
use Rattle.std.proofs.Common.{◌∙◌, ap, refl, sym}
use Rattle.tp_inbox.specs.Desks.{adding}
use Rattle.tp_behaviour.specs.Choices.{chosen}
use Rattle.tp_behaviour.specs.Views.{viewed}
use Rattle.tp_behaviour.proofs.choice.try_trigger.Goals as goal

pub returns-in-Took : goal.returns-in-Took
returns-in-Took c =
    let g = viewed c.args.guard.now in
    let took = rw c.in-Took.is at c.in_ok-trigger.ensures.ok in
    (took.0, refl, took.1, took.2 ∙ ap (λ k. adding c.args.desk.now (chosen k g.port took.0 c.args.branch)) (sym c.requires.kind))

-- what was dropped is what `trigger` says
pub returns-in-Dropped : goal.returns-in-Dropped
returns-in-Dropped c =
    let dropped = rw c.in-Dropped.is at c.in_ok-trigger.ensures.ok in
    (dropped.0, c.requires.kind, dropped.1, dropped.2, dropped.3)
