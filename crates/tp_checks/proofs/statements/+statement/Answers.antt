-- The next statement or branch stands for what is made; a `for` adds its variable to those around.
use Rattle.std.proofs.Common.{◌≡◌, [], ◌∷◌, ◌++◌, ap, sym, ◌∙◌}
use Rattle.tp_tree.specs.declared.tree.Counted.{out-Counted}
use Rattle.tp_checks.specs.{Named.texts, Scoping.IsNew, Scoping.visible_in, Bodies.IsBlock, Bodies.counted}
use Rattle.tp_checks.proofs.statements.+statement.Goals as goal

pub resolve_for-returns-clause-stands : goal.resolve_for-returns-clause-stands
resolve_for-returns-clause-stands t c =
    let looped = out-Counted c.args.looped.now in
    let scope = visible_in c.args.context.now.scope.now in
    let variables = c.args.context.now.variables.now in
    let turns = texts c.args.context.now.turns.now in
    let new : IsNew scope variables turns looped.turns.name = rw c.as_str-name.ensures at c.is_new.ensures.0 c.if-not-is_new.false in
    let row : texts c.deref.result.now ≡ turns ++ looped.turns.name ∷ [] =
    ap texts c.deref.ensures.value ∙ c.in_ok-inside.ensures.inside ∙ ap (λ x. turns ++ x ∷ []) c.as_str-name.ensures in
    let inside : IsBlock scope variables (turns ++ looped.turns.name ∷ []) looped.block c.in_ok-block.block =
    rw (sym row, sym c.as_slice.ensures) c.in_ok-block.ensures.stands in
    rw c.counted_for.ensures (counted turns c.args.looped.now c.in_ok-block.block new inside)
