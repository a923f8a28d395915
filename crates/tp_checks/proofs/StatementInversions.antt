-- What the rule says of the parts of a statement that obeys it.
use Rattle.std.proofs.Common.{◌≡◌, ◌≢◌, ℕ, List, [], ◌∷◌, ◌++◌, Some, None, refl}
use Rattle.std.specs.List.{AllZip}
use Rattle.tp_value.specs.declared.verdict.Verdict.{Verdict}
use Rattle.tp_config.specs.declared.port_type.PortType.{PortType}
use Rattle.tp_tree.specs.declared.tree.{Statement.Statement as StatementText, Action.Action, Branch.Branch as BranchText}
use Rattle.tp_tree.specs.declared.tree.{Action.TheViews.out-Action, Action.TheViews.out-BranchBody, BranchBody.BranchBody}
use Rattle.tp_tree.specs.declared.tree.{ElseBranch.ElseBranch, ElseBranch.out-ElseBranch, Counted.Counted, Counted.out-Counted}
use Rattle.tp_tree.specs.declared.tree.Action.TheVariants as a
use Rattle.tp_tree.specs.declared.tree.Action.TheOpen as o
use Rattle.tp_tree.specs.declared.tree.BranchBody.TheVariants as after
use Rattle.tp_play.specs.declared.body.{SendOperation.SendOperation, Receiving.Receiving, ResolvedStatement.ResolvedStatement}
use Rattle.tp_play.specs.declared.body.ResolvedBranch.{ResolvedBranch}
use Rattle.tp_play.specs.declared.body.ResolvedStatement.TheVariants as s
use Rattle.tp_checks.specs.declared.scope.BehaviourKind.TheVariants as behaviour_kind
use Rattle.tp_checks.specs.declared.scope.Variables.{Variables}
use Rattle.tp_checks.specs.Scoping.{IsPortNamed, IsNew, Visible}
use Rattle.tp_checks.specs.Bodies.{IsSend, IsReceive, IsVerdict, IsStatement, IsBlock, IsBranch, IsAfter, AreBranches}
use Rattle.tp_checks.specs.Bodies as d
use Rattle.tp_checks.proofs.ListPrefixGrowth.{zip_push}

module _ (scope : Visible) (variables : Variables) where
  -- what the rule says of a statement, by its layer, and what it stands for
  abbrev pub Ruled : List (List ℕ) → o.Action-F Action BranchBody BranchText Counted ElseBranch StatementText → ResolvedStatement → Type 0
  Ruled turns (o.Send x) y = (z : SendOperation) × IsSend scope variables turns x z × (y ≡ s.Send z)
  Ruled turns (o.Receive x) y = (z : Receiving) × IsReceive scope variables turns x z × (y ≡ s.Receive z)
  Ruled turns (o.Control x) y =
      (scope.behaviour ≢ behaviour_kind.SystemUnderTest) × (k : ℕ) × (port : PortType) × IsPortNamed scope x.port k port
      × (y ≡ s.Control k x.operation)
  Ruled turns (o.AllPorts x) y = (scope.behaviour ≢ behaviour_kind.SystemUnderTest) × (y ≡ s.AllPorts x)
  Ruled turns (o.SetVerdict x) y = (scope.behaviour ≢ behaviour_kind.SystemUnderTest) × (z : Verdict) × IsVerdict x z × (y ≡ s.SetVerdict z)
  Ruled turns (o.Alt xs None) y = (ys : List ResolvedBranch) × AreBranches scope variables turns xs ys × (y ≡ s.Alt ys None)
  Ruled turns (o.Alt xs (Some e)) y =
      (ys : List ResolvedBranch) × AreBranches scope variables turns xs ys
      × (block : List ResolvedStatement) × IsBlock scope variables turns (out-ElseBranch e).block block × (y ≡ s.Alt ys (Some block))
  Ruled turns (o.For x) y =
      IsNew scope variables turns (out-Counted x).turns.name
      × (block : List ResolvedStatement) × IsBlock scope variables (turns ++ (out-Counted x).turns.name ∷ []) (out-Counted x).block block
      × (y ≡ s.For (out-Counted x).turns.first (out-Counted x).turns.bound block)

  pub ruled : {turns : List (List ℕ)} {x : Action} {y : ResolvedStatement} → IsStatement scope variables turns x y → Ruled turns (out-Action x) y
  ruled (d.send turns x y h) = rw a.outs-Send (y, h, refl)
  ruled (d.receive turns x y h) = rw a.outs-Receive (y, h, refl)
  ruled (d.control turns x k port other h) = rw a.outs-Control (other, k, port, h, refl)
  ruled (d.all_ports turns x other) = rw a.outs-AllPorts (other, refl)
  ruled (d.set_verdict turns x y other h) = rw a.outs-SetVerdict (other, y, h, refl)
  ruled (d.alt turns xs ys h) = rw a.outs-Alt (ys, h, refl)
  ruled (d.alt_else turns xs ys e otherwise h inner) = rw a.outs-Alt (ys, h, otherwise, inner, refl)
  ruled (d.counted turns x block new h) = rw a.outs-For (new, block, h, refl)

  -- what the rule says of what stands after an operation, by its layer
  abbrev pub AfterMeans : List (List ℕ) → o.BranchBody-F Action BranchBody BranchText Counted ElseBranch StatementText → List ResolvedStatement → Type 0
  AfterMeans turns o.Nothing ys = ys ≡ []
  AfterMeans turns (o.Block xs) ys = IsBlock scope variables turns xs ys

  pub after_means : {turns : List (List ℕ)} {x : BranchBody} {ys : List ResolvedStatement} → IsAfter scope variables turns x ys → AfterMeans turns (out-BranchBody x) ys
  after_means (d.nothing turns) = rw after.outs-Nothing refl
  after_means (d.block turns xs ys h) = rw after.outs-Block h

  pub made_parts : {turns : List (List ℕ)} {x : BranchText} {y : ResolvedBranch} → IsBranch scope variables turns x y
      → IsReceive scope variables turns x.receive y.receiving × IsAfter scope variables turns x.body y.block
  made_parts (d.branch turns x y h after) = (h, after)

  abbrev pub StandsFor : List (List ℕ) → StatementText → ResolvedStatement → Type 0
  StandsFor turns x y = IsStatement scope variables turns x.action y

  pub block_zip : {turns : List (List ℕ)} {xs : List StatementText} {ys : List ResolvedStatement} → IsBlock scope variables turns xs ys → AllZip (StandsFor turns) xs ys
  block_zip (d.no_statement turns) = tt
  block_zip (d.one_statement_more turns xs ys x y before one) = zip_push (StandsFor turns) xs ys x y (block_zip before) one

  pub branches_zip : {turns : List (List ℕ)} {xs : List BranchText} {ys : List ResolvedBranch} → AreBranches scope variables turns xs ys
      → AllZip (IsBranch scope variables turns) xs ys
  branches_zip (d.no_branch turns) = tt
  branches_zip (d.one_branch_more turns xs ys x y before one) = zip_push (IsBranch scope variables turns) xs ys x y (branches_zip before) one
