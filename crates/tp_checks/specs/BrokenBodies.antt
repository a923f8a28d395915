-- Which rule is broken by a body that stands for nothing, and at which line: the rule of its first fault in the order
-- of the text, at the line at which the statement, branch, variable or definition with this fault begins.
use Rattle.std.specs.Prelude.{◌≡◌, ◌≢◌, ◌≤◌, ℕ, List, length, take, [], ◌∷◌, ◌++◌, Option, Some, Contains, slice_get}
use Rattle.tp_tree.specs.declared.tree.{Send.Send, Receive.Receive, Control.Control, VerdictName.VerdictName}
use Rattle.tp_tree.specs.declared.tree.{Variable.Variable, Statement.Statement as StatementText, Action.Action}
use Rattle.tp_tree.specs.declared.tree.{Branch.Branch as BranchText, BranchBody.BranchBody}
use Rattle.tp_tree.specs.declared.tree.ElseBranch.{ElseBranch, out-ElseBranch}
use Rattle.tp_tree.specs.declared.tree.Counted.{Counted, out-Counted}
use Rattle.tp_common.specs.declared.operation.PortOperation.{PortOperation}
use Rattle.tp_tree.specs.declared.tree.VerdictName.TheVariants as verdict_name
use Rattle.tp_tree.specs.declared.tree.Action.TheVariants as action
use Rattle.tp_tree.specs.declared.tree.BranchBody.TheVariants as branch_body
use Rattle.tp_play.specs.declared.body.{Receiving.Receiving, ResolvedStatement.ResolvedStatement}
use Rattle.tp_play.specs.declared.body.{ResolvedBranch.ResolvedBranch, VariableType.VariableType}
use Rattle.tp_checks.specs.declared.fault.ModuleRule.{ModuleRule}
use Rattle.tp_checks.specs.declared.fault.ModuleRule.TheVariants as rule
use Rattle.tp_checks.specs.{Named.IsAbsent, Scoping.AreNoPorts, Scoping.IsNew, Scoping.Visible}
use Rattle.tp_checks.specs.Bodies.{AreBranches, AreVariables, IsBlock, IsVariableType, IsReceive}
use Rattle.tp_checks.specs.BrokenOperations.{ReceiveBreaks, SendBreaks}
use Rattle.tp_checks.specs.declared.scope.BehaviourKind.TheVariants as behaviour_kind
use Rattle.tp_checks.specs.declared.scope.Variables.{Variables}

mutual
  -- a statement, which begins at the first line, breaks this rule at the second line
  pub data StatementBreaks (scope : Visible) (variables : Variables)
      : List (List ℕ) → ℕ → Action → ModuleRule → ℕ → Type 0 where
    send : (turns : List (List ℕ)) (line : ℕ) (x : Send) (r : ModuleRule) → SendBreaks scope variables turns x r
        → StatementBreaks scope variables turns line (action.Send x) r line
    receive : (turns : List (List ℕ)) (line : ℕ) (x : Receive) (r : ModuleRule)
        → ReceiveBreaks scope variables turns x r
        → StatementBreaks scope variables turns line (action.Receive x) r line
    -- an operation on ports is in the system under test (16), or its port is unknown (11)
    control_in_sut : (turns : List (List ℕ)) (line : ℕ) (x : Control)
        → scope.behaviour ≡ behaviour_kind.SystemUnderTest
        → StatementBreaks scope variables turns line (action.Control x) rule.NotInSut line
    control_of_no_port : (turns : List (List ℕ)) (line : ℕ) (x : Control)
        → scope.behaviour ≢ behaviour_kind.SystemUnderTest
        → IsAbsent scope.ports.names x.port
        → StatementBreaks scope variables turns line (action.Control x) rule.Unknown line
    all_ports_in_sut : (turns : List (List ℕ)) (line : ℕ) (x : PortOperation)
        → scope.behaviour ≡ behaviour_kind.SystemUnderTest
        → StatementBreaks scope variables turns line (action.AllPorts x) rule.NotInSut line
    -- a verdict is set in the system under test (16), or is `error` (13)
    verdict_in_sut : (turns : List (List ℕ)) (line : ℕ) (x : VerdictName)
        → scope.behaviour ≡ behaviour_kind.SystemUnderTest
        → StatementBreaks scope variables turns line (action.SetVerdict x) rule.NotInSut line
    error_verdict : (turns : List (List ℕ)) (line : ℕ) → scope.behaviour ≢ behaviour_kind.SystemUnderTest
        → StatementBreaks scope variables turns line (action.SetVerdict verdict_name.Error) rule.WrongType line
    branches : (turns : List (List ℕ)) (line : ℕ) (xs : List BranchText) (e : Option ElseBranch)
        (r : ModuleRule) (at : ℕ) → BranchesBreak scope variables turns xs r at
        → StatementBreaks scope variables turns line (action.Alt xs e) r at
    otherwise : (turns : List (List ℕ)) (line : ℕ) (xs : List BranchText) (ys : List ResolvedBranch) (e : ElseBranch)
        (r : ModuleRule) (at : ℕ) → AreBranches scope variables turns xs ys
        → BlockBreaks scope variables turns (out-ElseBranch e).block r at
        → StatementBreaks scope variables turns line (action.Alt xs (Some e)) r at
    -- the name of a loop variable isn't new (12), or the block, in which this variable is known too, breaks a rule
    old_name : (turns : List (List ℕ)) (line : ℕ) (x : Counted)
        → (IsNew scope variables turns (out-Counted x).turns.name → ⊥)
        → StatementBreaks scope variables turns line (action.For x) rule.Duplicate line
    counted : (turns : List (List ℕ)) (line : ℕ) (x : Counted) (r : ModuleRule) (at : ℕ)
        → IsNew scope variables turns (out-Counted x).turns.name
        → BlockBreaks scope variables (turns ++ (out-Counted x).turns.name ∷ [])
        (out-Counted x).block r at
        → StatementBreaks scope variables turns line (action.For x) r at

  -- one of the statements of a block breaks a rule, and those before it stand for something
  pub data BlockBreaks (scope : Visible) (variables : Variables)
      : List (List ℕ) → List StatementText → ModuleRule → ℕ → Type 0 where
    in_statement : (turns : List (List ℕ)) (xs : List StatementText) (ys : List ResolvedStatement) (i : ℕ) (x : StatementText)
        (r : ModuleRule) (at : ℕ) → IsBlock scope variables turns (take i xs) ys → slice_get xs i ≡ Some x
        → StatementBreaks scope variables turns x.line x.action r at
        → BlockBreaks scope variables turns xs r at

  -- a branch: its operation breaks a rule, at the line of the branch, or the block after its operation does
  pub data BranchBreaks (scope : Visible) (variables : Variables)
      : List (List ℕ) → BranchText → ModuleRule → ℕ → Type 0 where
    operation : (turns : List (List ℕ)) (x : BranchText) (r : ModuleRule)
        → ReceiveBreaks scope variables turns x.receive r → BranchBreaks scope variables turns x r x.line
    behind : (turns : List (List ℕ)) (x : BranchText) (y : Receiving) (r : ModuleRule) (at : ℕ)
        → IsReceive scope variables turns x.receive y → AfterBreaks scope variables turns x.body r at
        → BranchBreaks scope variables turns x r at

  -- the block after the operation of a branch breaks a rule
  pub data AfterBreaks (scope : Visible) (variables : Variables)
      : List (List ℕ) → BranchBody → ModuleRule → ℕ → Type 0 where
    in_block : (turns : List (List ℕ)) (xs : List StatementText) (r : ModuleRule) (at : ℕ)
        → BlockBreaks scope variables turns xs r at
        → AfterBreaks scope variables turns (branch_body.Block xs) r at

  -- one of the branches of an `alt` breaks a rule, and those before it stand for something
  pub data BranchesBreak (scope : Visible) (variables : Variables)
      : List (List ℕ) → List BranchText → ModuleRule → ℕ → Type 0 where
    in_branch : (turns : List (List ℕ)) (xs : List BranchText) (ys : List ResolvedBranch) (i : ℕ) (x : BranchText)
        (r : ModuleRule) (at : ℕ) → AreBranches scope variables turns (take i xs) ys → slice_get xs i ≡ Some x
        → BranchBreaks scope variables turns x r at → BranchesBreak scope variables turns xs r at

-- a variable after these: its type is unknown (11), its name isn't new (12), or there are 4,294,967,295 before it (15)
pub data VariableBreaks (scope : Visible) (before : Variables) (x : Variable) : ModuleRule → Type 0 where
  no_type : ((held : VariableType) → IsVariableType scope x.type_name held → ⊥) → VariableBreaks scope before x rule.Unknown
  not_new : (held : VariableType) → IsVariableType scope x.type_name held
      → (IsNew scope before [] x.name → ⊥) → VariableBreaks scope before x rule.Duplicate
  too_many : (held : VariableType) → IsVariableType scope x.type_name held → IsNew scope before [] x.name
      → 4294967295 ≤ length before.names → VariableBreaks scope before x rule.Limit

-- one of the variables of a body breaks a rule, and those before it stand for something
pub data VariablesBreak (scope : Visible) (xs : List Variable) : ModuleRule → ℕ → Type 0 where
  in_variable : (before : Variables) (i : ℕ) (x : Variable) (r : ModuleRule) → AreVariables scope (take i xs) before
      → slice_get xs i ≡ Some x → VariableBreaks scope before x r → VariablesBreak scope xs r x.line

-- a body whose definition begins at this line: a parameter has the name of a port (12, at that line); or a variable
-- breaks a rule; or, if all variables are valid, a statement does
pub data BodyBreaks (scope : Visible) (line : ℕ) (xs : List Variable) (statements : List StatementText)
    : ModuleRule → ℕ → Type 0 where
  parameter : (name : List ℕ) → Contains scope.ports.names name
      → Contains scope.parameters name → BodyBreaks scope line xs statements rule.Duplicate line
  variables : (r : ModuleRule) (at : ℕ) → AreNoPorts scope → VariablesBreak scope xs r at
      → BodyBreaks scope line xs statements r at
  statements : (vs : Variables) (r : ModuleRule) (at : ℕ) → AreNoPorts scope
      → AreVariables scope xs vs → BlockBreaks scope vs [] statements r at → BodyBreaks scope line xs statements r at
