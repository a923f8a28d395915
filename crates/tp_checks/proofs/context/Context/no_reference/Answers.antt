-- What is no reference is a name.
use Rattle.tp_checks.specs.{Named.texts, Scoping.visible_in}
use Rattle.tp_checks.proofs.BrokenOperationRules.{no_reference_told, only_named}
use Rattle.tp_checks.proofs.context.Context.no_reference.Goals as goal

pub returns-in-Named : goal.returns-in-Named
returns-in-Named c = λ none.
    no_reference_told (visible_in c.args.self.now.scope.now) c.args.self.now.variables.now (texts c.args.self.now.turns.now) c.args.self.now.line _ c.args.component.now
    c.in-Named.name c.in-Named.is none (rw c.as_str.ensures at c.no_turn.ensures)

pub returns : goal.returns
returns c = λ none.
    let n = only_named (visible_in c.args.self.now.scope.now) c.args.self.now.variables.now (texts c.args.self.now.turns.now) c.args.component.now none in absurd (c.in_default.not-Named n.0 n.1)
