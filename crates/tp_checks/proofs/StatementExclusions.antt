-- A statement that breaks a rule stands for nothing, and so does the body in which it stands.
use Rattle.std.proofs.Common.{ℕ, List, [], Option, Some, None, ap, ◌∙◌, subst, take, arith}
use Rattle.std.proofs.lemmas.Option.{slice_get-get_or}
use Rattle.tp_tree.specs.declared.tree.{Variable.Variable, Statement.Statement as StatementText, Action.Action, Branch.Branch as BranchText}
use Rattle.tp_tree.specs.declared.tree.{BranchBody.BranchBody, ElseBranch.ElseBranch}
use Rattle.tp_tree.specs.declared.tree.Action.TheVariants as a
use Rattle.tp_tree.specs.declared.tree.Action.TheOpen as o
use Rattle.tp_tree.specs.declared.tree.BranchBody.TheVariants as after
use Rattle.tp_play.specs.declared.body.{ResolvedStatement.ResolvedStatement, ResolvedBranch.ResolvedBranch, Body.Body}
use Rattle.tp_checks.specs.declared.fault.ModuleRule.{ModuleRule}
use Rattle.tp_checks.specs.declared.scope.Variables.{Variables}
use Rattle.tp_checks.specs.Scoping.{IsSoundScope, Visible}
use Rattle.tp_checks.specs.Bodies.{AreBranches, AreVariables, IsAfter, IsBlock, IsBody, IsBranch, IsStatement}
use Rattle.tp_checks.specs.BrokenBodies.{AfterBreaks, BlockBreaks, BodyBreaks, BranchBreaks, BranchesBreak, StatementBreaks, VariableBreaks, VariablesBreak}
use Rattle.tp_checks.specs.BrokenBodies as b
use Rattle.tp_checks.proofs.{NameLookupsAreUnique.absent_contained, NameLookupsAreUnique.absent_place, OperationInversions.verdict_means}
use Rattle.tp_checks.proofs.BodyVariableDeclarations.{Next, has_next, variables_fixed}
use Rattle.tp_checks.proofs.{OperationExclusions.receive_excludes, OperationExclusions.send_excludes, ListPrefixGrowth.zip_beside}
use Rattle.tp_checks.proofs.StatementInversions.{Ruled, StandsFor, after_means, block_zip, branches_zip, made_parts, ruled}

module _ (scope : Visible) (variables : Variables) (sound : IsSoundScope scope) where
  -- the branches of an `alt` stand for something, with or without an `[else]`
  ruled_branches : (turns : List (List ℕ)) (xs : List BranchText) (e : Option ElseBranch) (y : ResolvedStatement) → Ruled scope variables turns (o.Alt xs e) y
      → (ys : List ResolvedBranch) × AreBranches scope variables turns xs ys
  ruled_branches turns xs None y h = (h.0, h.1)
  ruled_branches turns xs (Some e) y h = (h.0, h.1)

  mutual
    statement_excludes : {turns : List (List ℕ)} {line : ℕ} {x : Action} {r : ModuleRule} {at : ℕ} → StatementBreaks scope variables turns line x r at
        → (y : ResolvedStatement) → IsStatement scope variables turns x y → ⊥
    statement_excludes (b.send turns line x r broken) y h =
        let p = rw a.outs-Send at (ruled scope variables h) in send_excludes scope variables turns sound broken p.0 p.1
    statement_excludes (b.receive turns line x r broken) y h =
        let p = rw a.outs-Receive at (ruled scope variables h) in receive_excludes scope variables turns sound broken p.0 p.1
    statement_excludes (b.control_in_sut turns line x is) y h = let p = rw a.outs-Control at (ruled scope variables h) in p.0 is
    statement_excludes (b.control_of_no_port turns line x other none) y h =
        let p = rw a.outs-Control at (ruled scope variables h) in
        absent_place scope.ports.names x.port p.1 none p.3.named
    statement_excludes (b.all_ports_in_sut turns line x is) y h = let p = rw a.outs-AllPorts at (ruled scope variables h) in p.0 is
    statement_excludes (b.verdict_in_sut turns line x is) y h = let p = rw a.outs-SetVerdict at (ruled scope variables h) in p.0 is
    statement_excludes (b.error_verdict turns line other) y h = let p = rw a.outs-SetVerdict at (ruled scope variables h) in verdict_means p.2
    statement_excludes (b.branches turns line xs e r at broken) y h =
        let p = ruled_branches turns xs e y (rw a.outs-Alt at (ruled scope variables h)) in branches_exclude broken p.0 p.1
    statement_excludes (b.otherwise turns line xs ys e r at before broken) y h =
        let p = rw a.outs-Alt at (ruled scope variables h) in block_excludes broken p.2 p.3
    statement_excludes (b.old_name turns line x old) y h = let p = rw a.outs-For at (ruled scope variables h) in old p.0
    statement_excludes (b.counted turns line x r at new broken) y h = let p = rw a.outs-For at (ruled scope variables h) in block_excludes broken p.1 p.2

    block_excludes : {turns : List (List ℕ)} {xs : List StatementText} {r : ModuleRule} {at : ℕ} → BlockBreaks scope variables turns xs r at
        → (ys : List ResolvedStatement) → IsBlock scope variables turns xs ys → ⊥
    block_excludes (b.in_statement turns xs us i x r at before there broken) ys h =
        let p = zip_beside (StandsFor scope variables turns) xs ys i x (block_zip scope variables h) there in
        statement_excludes broken p.0 p.2

    branch_excludes : {turns : List (List ℕ)} {x : BranchText} {r : ModuleRule} {at : ℕ} → BranchBreaks scope variables turns x r at
        → (y : ResolvedBranch) → IsBranch scope variables turns x y → ⊥
    branch_excludes (b.operation turns x r broken) y h =
        receive_excludes scope variables turns sound broken y.receiving (made_parts scope variables h).0
    branch_excludes (b.behind turns x z r at stands broken) y h = after_excludes broken y.block (made_parts scope variables h).1

    after_excludes : {turns : List (List ℕ)} {x : BranchBody} {r : ModuleRule} {at : ℕ} → AfterBreaks scope variables turns x r at
        → (ys : List ResolvedStatement) → IsAfter scope variables turns x ys → ⊥
    after_excludes (b.in_block turns xs r at broken) ys h = block_excludes broken ys (rw after.outs-Block at (after_means scope variables h))

    branches_exclude : {turns : List (List ℕ)} {xs : List BranchText} {r : ModuleRule} {at : ℕ} → BranchesBreak scope variables turns xs r at
        → (ys : List ResolvedBranch) → AreBranches scope variables turns xs ys → ⊥
    branches_exclude (b.in_branch turns xs us i x r at before there broken) ys h =
        let p = zip_beside (IsBranch scope variables turns) xs ys i x (branches_zip scope variables h) there in branch_excludes broken p.0 p.2

module _ (scope : Visible) where
  variable_excludes : {vs : Variables} {x : Variable} {r : ModuleRule} → VariableBreaks scope vs x r → (xs : List Variable) → Next scope xs vs x → ⊥
  variable_excludes (b.no_type none) xs next = none next.held next.is_held
  variable_excludes (b.not_new held is_held old) xs next = old next.new
  variable_excludes (b.too_many held is_held new many) xs next = absurd (omega (arith, many, next.few))

  variables_exclude : {xs : List Variable} {r : ModuleRule} {at : ℕ} → VariablesBreak scope xs r at → (ws : Variables) → AreVariables scope xs ws → ⊥
  variables_exclude {xs} (b.in_variable vs i x r before there broken) ws h =
      let p = has_next scope h i x there in
      variable_excludes broken (take i xs) (subst (λ us. Next scope (take i xs) us x) (variables_fixed scope (take i xs) p.0 vs p.1 before) p.2)

  pub body_excludes : (sound : IsSoundScope scope) {line : ℕ} {xs : List Variable} {statements : List StatementText} → (r : ModuleRule) (at : ℕ)
      → BodyBreaks scope line xs statements r at → (body : Body) × IsBody scope xs statements body → ⊥
  body_excludes sound r at (b.parameter name (k, below, is) there) h =
      absent_contained scope.parameters name
      (h.1.no_port k name (slice_get-get_or scope.ports.names k name below ∙ ap Some is)) there
  body_excludes sound r at (b.variables s line apart broken) h = variables_exclude broken h.1.variables h.1.declared
  body_excludes sound {line} {xs} {statements} r at (b.statements vs s l apart made broken) h =
      let same = variables_fixed scope xs h.1.variables vs h.1.declared made in
      block_excludes scope vs sound broken h.0.statements (subst (λ v. IsBlock scope v [] statements h.0.statements) same h.1.block)
