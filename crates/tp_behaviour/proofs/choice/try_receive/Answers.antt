-- What was received is what the branch wants.
use Rattle.std.proofs.Common.{◌∙◌, ap, refl, sym}
use Rattle.tp_inbox.specs.Desks.{adding}
use Rattle.tp_behaviour.specs.Choices.{chosen}
use Rattle.tp_behaviour.specs.Views.{viewed}
use Rattle.tp_behaviour.proofs.choice.try_receive.Goals as goal

pub returns-then-branch : goal.returns-then-branch
returns-then-branch c =
    let g = viewed c.args.guard.now in
    let took = rw c.if-branch.true at c.in_ok-receive.ensures.ok in
    (took.0, refl, took.1, took.2 ∙ ap (λ k. adding c.args.desk.now (chosen k g.port took.0 c.args.branch)) (sym c.requires.kind))
