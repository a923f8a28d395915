-- A body of the text stands for one body, in whichever scope of what it may speak of.
use Rattle.std.proofs.Common.{◌≡◌, ℕ, List, [], ap, sym, subst, ◌∙◌}
use Rattle.tp_tree.specs.declared.tree.{Variable.Variable, Statement.Statement as StatementText}
use Rattle.tp_play.specs.declared.body.{ResolvedStatement.ResolvedStatement, VariableType.VariableType, Body.Body}
use Rattle.tp_checks.specs.declared.scope.BehaviourKind.{BehaviourKind}
use Rattle.tp_checks.specs.{Scoping.OwnNames, Scoping.Visible, Bodies.IsBlock, Bodies.IsBody}
use Rattle.tp_checks.proofs.BodyVariableDeclarations.{variables_fixed}
use Rattle.tp_script.specs.Scopes.{Known, IsBodyInScope}
use Rattle.tp_script.proofs.{ScopesFixedByKnown.scope_fixed, StatementsFixedByText.block_fixed}

abbrev body_of : List VariableType → List ResolvedStatement → Body
body_of variables statements = record { variables = variables; statements = statements }

module _ (scope : Visible) (own : OwnNames scope.types) where
  body_fixed : (xs : List Variable) (statements : List StatementText) (body other : Body) → IsBody scope xs statements body → IsBody scope xs statements other → body ≡ other
  body_fixed xs statements body other h k =
      let one = variables_fixed scope xs h.variables k.variables h.declared k.declared in
      ap (λ v. body_of v body.statements) (h.same_types ∙ ap (λ v. v.types) one ∙ sym k.same_types)
      ∙ ap (body_of other.variables)
      (block_fixed scope own k.variables (subst (λ v. IsBlock scope v [] statements body.statements) one h.block) other.statements k.block)

-- whatever the scope
pub scoped_body_fixed : (known : Known) (plays : BehaviourKind) (runs_on : List ℕ) (parameters : List (List ℕ)) (xs : List Variable) (statements : List StatementText)
    → OwnNames known.types → (body other : Body) → IsBodyInScope known plays runs_on parameters xs statements body → IsBodyInScope known plays runs_on parameters xs statements other
    → body ≡ other
scoped_body_fixed known plays runs_on parameters xs statements own body other h k =
    body_fixed k.scope (subst (λ (v : Visible). OwnNames v.types) (sym k.is_scope.scope_is) own) xs statements body other
    (subst (λ s. IsBody s xs statements body) (scope_fixed known plays runs_on parameters h.scope k.scope h.is_scope k.is_scope) h.is_body) k.is_body
