-- What the statements of the text stand for, with a case for each line of the grammar. A statement with a fault stands
-- for nothing.
use Rattle.std.specs.Prelude.{◌≡◌, ◌≢◌, ◌<◌, ℕ, List, length, [], ◌∷◌, ◌++◌, Option, None, Some, Contains}
use Rattle.tp_value.specs.declared.types.Ty.{Ty}
use Rattle.tp_value.specs.declared.types.Ty.TheVariants as ty
use Rattle.tp_value.specs.declared.verdict.Verdict.{Verdict}
use Rattle.tp_value.specs.declared.verdict.Verdict.TheVariants as verdict
use Rattle.tp_value.specs.Types.{type_number}
use Rattle.tp_config.specs.declared.port_type.PortType.{PortType}
use Rattle.tp_tree.specs.declared.message.TypeName.TheVariants as type_name
use Rattle.tp_tree.specs.declared.message.{TypeName.TypeName, Message.Message, MessageTemplate.MessageTemplate}
use Rattle.tp_tree.specs.declared.tree.{ComponentName.ComponentName, SentExpression.SentExpression, Receivers.Receivers}
use Rattle.tp_tree.specs.declared.tree.{Send.Send, Receive.Receive, Control.Control, VerdictName.VerdictName}
use Rattle.tp_tree.specs.declared.tree.{Variable.Variable, Statement.Statement as StatementText, Action.Action}
use Rattle.tp_tree.specs.declared.tree.{Branch.Branch as BranchText, BranchBody.BranchBody}
use Rattle.tp_tree.specs.declared.tree.ElseBranch.{ElseBranch, out-ElseBranch}
use Rattle.tp_tree.specs.declared.tree.Counted.{Counted, out-Counted}
use Rattle.tp_tree.specs.declared.tree.ComponentName.TheVariants as component_name
use Rattle.tp_tree.specs.declared.tree.SentExpression.TheVariants as sent
use Rattle.tp_tree.specs.declared.tree.Receivers.TheVariants as destination
use Rattle.tp_common.specs.declared.operation.PortOperation.{PortOperation}
use Rattle.tp_tree.specs.declared.tree.VerdictName.TheVariants as verdict_name
use Rattle.tp_tree.specs.declared.tree.Action.TheVariants as action
use Rattle.tp_tree.specs.declared.tree.BranchBody.TheVariants as branch_body
use Rattle.tp_play.specs.declared.body.{SendMsg.SendMsg, RecvTemplate.RecvTemplate, RecvMsg.RecvMsg, Sent.Sent}
use Rattle.tp_play.specs.declared.body.{Receiver.Receiver, SendOperation.SendOperation, Receiving.Receiving, Body.Body}
use Rattle.tp_play.specs.declared.body.{ResolvedStatement.ResolvedStatement, ResolvedBranch.ResolvedBranch}
use Rattle.tp_play.specs.declared.body.VariableType.{VariableType}
use Rattle.tp_play.specs.declared.body.SendValue.TheVariants as send_value
use Rattle.tp_play.specs.declared.body.RecvMsg.TheVariants as recv_msg
use Rattle.tp_play.specs.declared.body.Sent.TheVariants as s
use Rattle.tp_play.specs.declared.body.Receiver.TheVariants as to
use Rattle.tp_play.specs.declared.body.ResolvedStatement.TheVariants as statement
use Rattle.tp_play.specs.declared.body.VariableType.TheVariants as variable_type
use Rattle.tp_checks.specs.declared.scope.BehaviourKind.TheVariants as behaviour_kind
use Rattle.tp_checks.specs.declared.scope.Variables.{Variables}
use Rattle.tp_checks.specs.{Named.IsPlace, Named.IsAbsent, Scoping.AreNoPorts, Scoping.IsNew, Scoping.Visible}
use Rattle.tp_checks.specs.Scoping.{IsPortNamed, sendable_types, receivable_types, IsType, IsVariable, IsReference}
use Rattle.tp_checks.specs.Messages.{IsMessage, IsTemplate}

-- what is sent, given the types that can be sent at the port
pub data IsSent (scope : Visible) (variables : Variables) (turns : List (List ℕ)) (sendable : List Ty)
    : SentExpression → Sent → Type 0 where
  written : (x : Message) (m : SendMsg) → IsMessage scope.types turns x m → Contains sendable m.ty
      → IsSent scope variables turns sendable (sent.Message x) (s.Written m)
  -- what a loop variable holds, as an integer
  counter : (n : List ℕ) (k : ℕ) → IsPlace turns n k → Contains sendable ty.Integer
      → IsSent scope variables turns sendable (sent.Variable n)
      (s.Written (record { ty = ty.Integer; value = send_value.Turn k }))
  -- what a variable holds, under its type
  held : (n : List ℕ) (k : ℕ) (u : Ty) → IsAbsent turns n
      → IsVariable variables n k (variable_type.Message u) → Contains sendable u
      → IsSent scope variables turns sendable (sent.Variable n) (s.Variable k)

-- the receivers of a send
pub data IsReceiver (scope : Visible) (variables : Variables) (turns : List (List ℕ))
    : Option Receivers → Receiver → Type 0 where
  nobody : IsReceiver scope variables turns None to.Nobody
  reference : (x : ComponentName) (k : ℕ) → IsReference scope variables turns x k
      → IsReceiver scope variables turns (Some (destination.Component x)) (to.Reference k)
  variable : (n : List ℕ) (k : ℕ) → IsAbsent turns n
      → IsVariable variables n k variable_type.Component
      → IsReceiver scope variables turns (Some (destination.Component (component_name.Named n))) (to.Variable k)
  all : IsReceiver scope variables turns (Some destination.AllComponents) to.All

-- a send: the port is known, and its type lists the type of what is sent
pub record IsSend (scope : Visible) (variables : Variables) (turns : List (List ℕ)) (x : Send) (y : SendOperation)
    : Type 0 where
  pub port : PortType
  pub port_known : IsPortNamed scope x.port y.port port
  pub sent : IsSent scope variables turns (sendable_types scope.behaviour port) x.sent y.sent
  pub receiver : IsReceiver scope variables turns x.to y.to

-- a wanted message, given the types that can be received at the port
pub data IsWanted (scope : Visible) (turns : List (List ℕ)) (receivable : List Ty)
    : Option MessageTemplate → RecvMsg → Type 0 where
  every_message : IsWanted scope turns receivable None recv_msg.Any
  matching : (x : MessageTemplate) (u : Ty) (r : RecvTemplate) → IsType scope.types x.type_name u
      → Contains receivable u → IsTemplate scope.types turns u x.template r
      → IsWanted scope turns receivable (Some x) (recv_msg.Of u r)

-- the component after `from`, if there is one
pub data IsFrom (scope : Visible) (variables : Variables) (turns : List (List ℕ))
    : Option ComponentName → Option ℕ → Type 0 where
  whoever : IsFrom scope variables turns None None
  this_one : (x : ComponentName) (k : ℕ) → IsReference scope variables turns x k
      → IsFrom scope variables turns (Some x) (Some k)

-- the variable after `value`, if there is one: it has the type of the template
pub data IsValueTarget (variables : Variables) (turns : List (List ℕ))
    : RecvMsg → Option (List ℕ) → Option ℕ → Type 0 where
  no_target : (m : RecvMsg) → IsValueTarget variables turns m None None
  target : (u : Ty) (r : RecvTemplate) (n : List ℕ) (k : ℕ) → IsAbsent turns n
      → IsVariable variables n k (variable_type.Message u)
      → IsValueTarget variables turns (recv_msg.Of u r) (Some n) (Some k)

-- the variable after `sender`, if there is one: it holds components
pub data IsSenderTarget (variables : Variables) (turns : List (List ℕ))
    : Option (List ℕ) → Option ℕ → Type 0 where
  no_sender_target : IsSenderTarget variables turns None None
  sender_target : (n : List ℕ) (k : ℕ) → IsAbsent turns n
      → IsVariable variables n k variable_type.Component
      → IsSenderTarget variables turns (Some n) (Some k)

-- a receiving operation: the port is known, and its type lists the type of what is wanted
pub record IsReceive (scope : Visible) (variables : Variables) (turns : List (List ℕ)) (x : Receive) (y : Receiving)
    : Type 0 where
  pub port : PortType
  pub port_known : IsPortNamed scope x.port y.port port
  pub same_kind : y.kind ≡ x.kind
  pub wants : IsWanted scope turns (receivable_types scope.behaviour port) x.template y.wanted
  pub from_known : IsFrom scope variables turns x.sender y.sender
  pub value_known : IsValueTarget variables turns y.wanted x.redirect.value y.value_to
  pub sender_known : IsSenderTarget variables turns x.redirect.sender y.sender_to

-- a verdict that a statement can name: not `error`
pub data IsVerdict : VerdictName → Verdict → Type 0 where
  no_verdict : IsVerdict verdict_name.NoVerdict verdict.None
  pass : IsVerdict verdict_name.Pass verdict.Pass
  inconc : IsVerdict verdict_name.Inconc verdict.Inconc
  fail : IsVerdict verdict_name.Fail verdict.Fail

mutual
  -- a statement of the text stands for this one
  pub data IsStatement (scope : Visible) (variables : Variables) : List (List ℕ) → Action → ResolvedStatement → Type 0 where
    send : (turns : List (List ℕ)) (x : Send) (y : SendOperation) → IsSend scope variables turns x y
        → IsStatement scope variables turns (action.Send x) (statement.Send y)
    receive : (turns : List (List ℕ)) (x : Receive) (y : Receiving) → IsReceive scope variables turns x y
        → IsStatement scope variables turns (action.Receive x) (statement.Receive y)
    -- this statement and the next two aren't allowed in the system under test
    control : (turns : List (List ℕ)) (x : Control) (k : ℕ) (port : PortType)
        → scope.behaviour ≢ behaviour_kind.SystemUnderTest → IsPortNamed scope x.port k port
        → IsStatement scope variables turns (action.Control x) (statement.Control k x.operation)
    all_ports : (turns : List (List ℕ)) (x : PortOperation) → scope.behaviour ≢ behaviour_kind.SystemUnderTest
        → IsStatement scope variables turns (action.AllPorts x) (statement.AllPorts x)
    set_verdict : (turns : List (List ℕ)) (x : VerdictName) (y : Verdict)
        → scope.behaviour ≢ behaviour_kind.SystemUnderTest
        → IsVerdict x y
        → IsStatement scope variables turns (action.SetVerdict x) (statement.SetVerdict y)
    alt : (turns : List (List ℕ)) (xs : List BranchText) (ys : List ResolvedBranch)
        → AreBranches scope variables turns xs ys
        → IsStatement scope variables turns (action.Alt xs None) (statement.Alt ys None)
    alt_else : (turns : List (List ℕ)) (xs : List BranchText) (ys : List ResolvedBranch) (e : ElseBranch)
        (otherwise : List ResolvedStatement) → AreBranches scope variables turns xs ys
        → IsBlock scope variables turns (out-ElseBranch e).block otherwise
        → IsStatement scope variables turns (action.Alt xs (Some e)) (statement.Alt ys (Some otherwise))
    -- in its block there is one more loop variable
    counted : (turns : List (List ℕ)) (x : Counted) (block : List ResolvedStatement)
        → IsNew scope variables turns (out-Counted x).turns.name
        → IsBlock scope variables (turns ++ (out-Counted x).turns.name ∷ [])
        (out-Counted x).block block
        → IsStatement scope variables turns (action.For x)
        (statement.For (out-Counted x).turns.first (out-Counted x).turns.bound block)

  pub data IsBlock (scope : Visible) (variables : Variables)
      : List (List ℕ) → List StatementText → List ResolvedStatement → Type 0 where
    no_statement : (turns : List (List ℕ)) → IsBlock scope variables turns [] []
    one_statement_more :
        (turns : List (List ℕ)) (xs : List StatementText) (ys : List ResolvedStatement) (x : StatementText) (y : ResolvedStatement)
        → IsBlock scope variables turns xs ys → IsStatement scope variables turns x.action y
        → IsBlock scope variables turns (xs ++ x ∷ []) (ys ++ y ∷ [])

  pub data IsBranch (scope : Visible) (variables : Variables) : List (List ℕ) → BranchText → ResolvedBranch → Type 0 where
    branch : (turns : List (List ℕ)) (x : BranchText) (y : ResolvedBranch)
        → IsReceive scope variables turns x.receive y.receiving → IsAfter scope variables turns x.body y.block
        → IsBranch scope variables turns x y

  -- the rest of a branch after its operation: nothing, or a block
  pub data IsAfter (scope : Visible) (variables : Variables) : List (List ℕ) → BranchBody → List ResolvedStatement → Type 0 where
    nothing : (turns : List (List ℕ)) → IsAfter scope variables turns branch_body.Nothing []
    block : (turns : List (List ℕ)) (xs : List StatementText) (ys : List ResolvedStatement)
        → IsBlock scope variables turns xs ys
        → IsAfter scope variables turns (branch_body.Block xs) ys

  pub data AreBranches (scope : Visible) (variables : Variables)
      : List (List ℕ) → List BranchText → List ResolvedBranch → Type 0 where
    no_branch : (turns : List (List ℕ)) → AreBranches scope variables turns [] []
    one_branch_more : (turns : List (List ℕ)) (xs : List BranchText) (ys : List ResolvedBranch) (x : BranchText) (y : ResolvedBranch)
        → AreBranches scope variables turns xs ys → IsBranch scope variables turns x y
        → AreBranches scope variables turns (xs ++ x ∷ []) (ys ++ y ∷ [])

-- the type of a variable: a type of messages, or a component type if no type of messages has the name
pub data IsVariableType (scope : Visible) : TypeName → VariableType → Type 0 where
  message : (x : TypeName) (u : Ty) → IsType scope.types x u → IsVariableType scope x (variable_type.Message u)
  component : (n : List ℕ) (k : ℕ) → type_number scope.types n ≡ None
      → IsPlace scope.component_types n k
      → IsVariableType scope (type_name.Named n) variable_type.Component

-- the variables of a body, each with a new name: 4,294,967,295 at most
pub data AreVariables (scope : Visible) : List Variable → Variables → Type 0 where
  no_variable : (vs : Variables) → vs.names ≡ [] → vs.types ≡ [] → AreVariables scope [] vs
  one_variable_more : (xs : List Variable) (vs ws : Variables) (x : Variable) (held : VariableType)
      → AreVariables scope xs vs → length vs.names < 4294967295 → IsVariableType scope x.type_name held
      → IsNew scope vs [] x.name
      → ws.names ≡ vs.names ++ x.name ∷ [] → ws.types ≡ vs.types ++ held ∷ []
      → AreVariables scope (xs ++ x ∷ []) ws

-- a body: no parameter has the name of a port, the variables come first, and the statements may use them
pub record IsBody (scope : Visible) (xs : List Variable) (statements : List StatementText) (body : Body) : Type 0 where
  pub variables : Variables
  pub no_port : AreNoPorts scope
  pub declared : AreVariables scope xs variables
  pub same_types : body.variables ≡ variables.types
  pub block : IsBlock scope variables [] statements body.statements
