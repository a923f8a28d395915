-- The statements of a body speak of no loop variable from outside, and they can be played.
use Rattle.std.proofs.{Common.ℕ, Common.List, Common.Result, Common.IfErr, Common.arith, lemmas.Bool.OnFalse_at, lemmas.Result.IfErr-weaker}
use Rattle.tp_tree.specs.declared.tree.{Statement.Statement, Variable.Variable}
use Rattle.tp_play.specs.declared.body.Body.{Body}
use Rattle.tp_checks.specs.declared.fault.ModuleRule.TheVariants as rule
use Rattle.tp_checks.specs.declared.fault.ModuleFault.{ModuleFault}
use Rattle.tp_checks.specs.{Refused.IsRefusedBy, Refused.Tells, Scoping.IsSoundScope, Scoping.Visible, Scoping.visible_in, Bodies.IsBody}
use Rattle.tp_checks.specs.BrokenBodies.{BodyBreaks}
use Rattle.tp_checks.specs.BrokenBodies as b
use Rattle.tp_checks.proofs.{LoopVariablesInScope.block_closed, BodiesCanBePlayed.block_played, BodyVariableDeclarations.typed_variables}
use Rattle.tp_checks.proofs.StatementExclusions.{body_excludes}
use Rattle.tp_checks.proofs.RuleFaultPropagation.{broken_from, tells_on, told_here}
use Rattle.tp_checks.proofs.statements.resolve_body.Goals as goal

-- no loop variable is around the statements of a body
pub returns-clause-closed : goal.returns-clause-closed
returns-clause-closed c = omega (arith, block_closed (visible_in c.args.scope.now) c.in_ok-variables.variables c.in_ok-statements.ensures.stands)

pub returns-clause-playable : goal.returns-clause-playable
returns-clause-playable c = record { statements = block_played (visible_in c.args.scope.now) c.in_ok-variables.variables c.in_ok-statements.ensures.stands }

-- what is told shows that there is no such body
refuses : {T : Type 0} (scope : Visible) (sound : IsSoundScope scope) (line : ℕ) (xs : List Variable) (statements : List Statement) (r : Result T ModuleFault)
    → IfErr r (Tells (BodyBreaks scope line xs statements)) → IfErr r (IsRefusedBy ((body : Body) × IsBody scope xs statements body))
refuses scope sound line xs statements r told =
    IfErr-weaker r (Tells (BodyBreaks scope line xs statements)) (IsRefusedBy ((body : Body) × IsBody scope xs statements body))
    (λ f. broken_from _ _ f (body_excludes scope sound)) told

pub returns-then-not-are_no_ports-clause-told : goal.returns-then-not-are_no_ports-clause-told
returns-then-not-are_no_ports-clause-told c = λ sound.
    let h = OnFalse_at c.if-not-are_no_ports.true c.are_no_ports.ensures.twice in
    told_here c.args.line rule.Duplicate (BodyBreaks (visible_in c.args.scope.now) c.args.line c.args.declared.now c.args.statements.now) _ (cc)
    (b.parameter h.0 h.1 h.2)

pub returns-in_err-variables-clause-told : goal.returns-in_err-variables-clause-told
returns-in_err-variables-clause-told c = λ sound.
    tells_on _ _ c.from_residual.result _ c.from_residual.ensures.1 (λ r at broken. b.variables r at (c.are_no_ports.ensures.apart.0 c.if-not-are_no_ports.false) broken)
    c.in_err-variables.ensures.told

pub returns-in_err-statements-clause-told : goal.returns-in_err-statements-clause-told
returns-in_err-statements-clause-told c = λ sound.
    tells_on _ _ c.from_residual-in_err-statements.result _ c.from_residual-in_err-statements.ensures.1
    (λ r at broken. b.statements c.in_ok-variables.variables r at (c.are_no_ports.ensures.apart.0 c.if-not-are_no_ports.false) c.in_ok-variables.ensures.declared
    broken)
    (c.in_err-statements.ensures.told sound (typed_variables (visible_in c.args.scope.now) c.in_ok-variables.ensures.declared))

pub returns-then-not-are_no_ports-clause-refused : goal.returns-then-not-are_no_ports-clause-refused
returns-then-not-are_no_ports-clause-refused c = λ sound.
    broken_from (BodyBreaks (visible_in c.args.scope.now) c.args.line c.args.declared.now c.args.statements.now) _ _ (body_excludes (visible_in c.args.scope.now) sound)
    (returns-then-not-are_no_ports-clause-told c sound)

pub returns-in_err-variables-clause-refused : goal.returns-in_err-variables-clause-refused
returns-in_err-variables-clause-refused c = λ sound.
    refuses (visible_in c.args.scope.now) sound c.args.line c.args.declared.now c.args.statements.now c.from_residual.result (returns-in_err-variables-clause-told c sound)

pub returns-in_err-statements-clause-refused : goal.returns-in_err-statements-clause-refused
returns-in_err-statements-clause-refused c = λ sound.
    refuses (visible_in c.args.scope.now) sound c.args.line c.args.declared.now c.args.statements.now c.from_residual-in_err-statements.result (returns-in_err-statements-clause-told c sound)
