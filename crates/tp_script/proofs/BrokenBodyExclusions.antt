-- A body that breaks a rule stands for nothing.
use Rattle.std.proofs.Common.{ℕ, List, [], ◌∷◌, ◌++◌, ◌∙◌, map, ap, subst}
use Rattle.std.proofs.lemmas.List.Elements.{filter_map-append}
use Rattle.std.specs.List.{AllZip, cons_option}
use Rattle.tp_tree.specs.declared.tree.{Definition.Definition, Statement.Statement, TestCase.TestCase, Variable.Variable}
use Rattle.tp_play.specs.declared.body.Body.{Body}
use Rattle.tp_checks.specs.declared.fault.ModuleRule.{ModuleRule}
use Rattle.tp_checks.specs.declared.scope.BehaviourKind.{BehaviourKind}
use Rattle.tp_checks.specs.{Bodies.IsBody, Definitions.declared, Definitions.function_of, Definitions.of_kind}
use Rattle.tp_checks.proofs.{StatementExclusions.body_excludes, UniqueZipsAndPlaces.zip_middle}
use Rattle.tp_script.specs.BrokenModules.{BodiesBreak, BreaksIn, FunctionsBreak, in_function, in_main}
use Rattle.tp_script.specs.Scopes.{HasBodies, IsBodyInScope, IsFunctionBody, IsSoundKnown, Known, plays_of}
use Rattle.tp_script.proofs.ScopesFixedByKnown.{scope_fixed, sound_scope}

module _ (known : Known) (sound : IsSoundKnown known) where
  body_excluded : (plays : BehaviourKind) (runs_on : List ℕ) (parameters : List (List ℕ)) (begins : ℕ) (xs : List Variable) (statements : List Statement)
      (rule : ModuleRule) (line : ℕ) → BreaksIn known plays runs_on parameters begins xs statements rule line
      → (body : Body) → IsBodyInScope known plays runs_on parameters xs statements body → ⊥
  body_excluded plays runs_on parameters begins xs statements rule line b body h =
      body_excludes b.scope (sound_scope known plays runs_on parameters b.scope sound b.is_scope) rule line b.breaks (
        body,
        subst (λ s. IsBody s xs statements body) (scope_fixed known plays runs_on parameters h.scope b.scope h.is_scope b.is_scope) h.is_body,
      )

  functions_excluded : (xs : List Definition) (rule : ModuleRule) (line : ℕ) → FunctionsBreak known xs rule line
      → (bodies : List Body) → AllZip (IsFunctionBody known) (of_kind function_of xs) bodies → ⊥
  functions_excluded xs rule line b bodies each =
      let f = b.function in
      let split =
      ap (of_kind function_of) b.split
      ∙ filter_map-append (λ (d : Definition). function_of d.defined) b.before (b.definition ∷ b.after)
      ∙ ap (λ o. of_kind function_of b.before ++ cons_option o (of_kind function_of b.after)) b.is in
      let here = zip_middle (IsFunctionBody known) (of_kind function_of b.before) f (of_kind function_of b.after) bodies
      (subst (λ l. AllZip (IsFunctionBody known) l bodies) split each) in
      body_excluded (plays_of f) f.runs_on (map (λ p. declared p.name) f.parameters) b.definition.line f.variables f.statements rule line b.breaks here.0 here.1

  pub bodies_excluded : (case : TestCase) (begins : ℕ) (xs : List Definition) (rule : ModuleRule) (line : ℕ)
      → BodiesBreak known case begins xs rule line → HasBodies known case (of_kind function_of xs) → ⊥
  bodies_excluded case begins xs _ _ (in_main rule line b) h =
      body_excluded _ case.runs_on [] begins case.variables case.statements rule line b h.main h.main_body
  bodies_excluded case begins xs _ _ (in_function main rule line is b) h = functions_excluded xs rule line b h.bodies h.function_bodies
