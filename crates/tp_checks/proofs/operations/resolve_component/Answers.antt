-- The name of a variable is no reference, and any other name that is none is unknown.
use Rattle.std.proofs.Common.{ℕ, List, ◌≡◌, Contains, sym, ◌∙◌, subst, true≢false}
use Rattle.tp_tree.specs.declared.tree.ComponentName.TheVariants as component_name
use Rattle.tp_checks.specs.{Named.IsAbsent, Named.texts, Scoping.visible_in}
use Rattle.tp_checks.proofs.{BrokenOperationRules.nobody_told, BrokenOperationRules.variable_told, RuleFaultPropagation.tells_at}
use Rattle.tp_checks.proofs.operations.resolve_component.Goals.{in-Named+else-is_variable, in_default}
use Rattle.tp_checks.proofs.operations.resolve_component.Goals as goal

pub returns-in_err-place-clause-told : goal.returns-in_err-place-clause-told
returns-in_err-place-clause-told c = λ typed.
    let is = rw c.as_str-name.ensures at (c.is_variable.ensures.0 c.if-is_variable.true) in
    tells_at _ _ _ c.from_residual.result _ c.from_residual.ensures.1
    (λ r broken. rw c.in-Named.is (variable_told (visible_in c.args.context.now.scope.now) c.args.context.now.variables.now (texts c.args.context.now.turns.now)
    c.in-Named.name is.0 is.1 broken))
    (rw c.as_str-name.ensures at (c.in_err-place.ensures.told typed))

pub returns-in_default-find_reference-clause-told : goal.returns-in_default-find_reference-clause-told
returns-in_default-find_reference-clause-told c = λ typed.
    let variables = c.args.context.now.variables.now in
    let turns = texts c.args.context.now.turns.now in
    let apart : (n : List ℕ) → c.args.component.now ≡ component_name.Named n → IsAbsent turns n
    → Contains variables.names n → ⊥ =
    λ n e absent there.
    elim c.match-component.branch [
      | in-Named+else-is_variable w ↦
          let same : n ≡ w.in-Named.name = cc in
          true≢false (sym (w.is_variable.ensures.1 (
            rw w.as_str-name.ensures (subst (λ s. IsAbsent turns s) same absent),
            rw w.as_str-name.ensures (subst (λ s. Contains variables.names s) same there),
          )) ∙ w.if-is_variable.false)
      | in_default w ↦ w.in_default.not-Named n e
    ] in
    nobody_told (visible_in c.args.context.now.scope.now) variables turns c.args.context.now.line _ c.args.component.now apart
    c.in_default-find_reference.ensures.absent (cc)
