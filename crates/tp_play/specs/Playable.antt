-- What an executor needs of a body: each place that it mentions exists and holds what it must, and each message and
-- template has its type. There is a predicate for each kind of statement, which depends on the number of loop variables
-- around the statement.
use Rattle.std.specs.Prelude.{◌≡◌, ◌≤◌, ◌<◌, ◌+◌, ℕ, ℤ, List, [], ◌∷◌, Option, Some, None, All, FitsSigned, slice_get}
use Rattle.std.specs.Int.{w64}
use Rattle.tp_value.specs.declared.types.Ty.{Ty}
use Rattle.tp_value.specs.declared.types.Types.{Types}
use Rattle.tp_value.specs.declared.message.MsgTemplate.{MsgTemplate}
use Rattle.tp_value.specs.declared.message.MsgTemplate.TheVariants as msg_template
use Rattle.tp_value.specs.HasType.{HasType}
use Rattle.tp_value.specs.Fits.{Fits}
use Rattle.tp_play.specs.declared.body.SendMsg.{SendMsg}
use Rattle.tp_play.specs.declared.body.RecvMsg.{RecvMsg}
use Rattle.tp_play.specs.declared.body.RecvMsg.TheVariants as recv_msg
use Rattle.tp_play.specs.declared.body.Sent.{Sent}
use Rattle.tp_play.specs.declared.body.Sent.TheVariants as sent
use Rattle.tp_play.specs.declared.body.Receiver.{Receiver}
use Rattle.tp_play.specs.declared.body.Receiver.TheVariants as receiver
use Rattle.tp_play.specs.declared.body.SendOperation.{SendOperation}
use Rattle.tp_play.specs.declared.body.Receiving.{Receiving}
use Rattle.tp_play.specs.declared.body.ResolvedStatement.{ResolvedStatement}
use Rattle.tp_play.specs.declared.body.ResolvedStatement.TheOpen as o
use Rattle.tp_play.specs.declared.body.ResolvedStatement.TheFolds.{rec-ResolvedStatement, rec-ResolvedBranch}
use Rattle.tp_play.specs.declared.body.ResolvedBranch.{ResolvedBranch}
use Rattle.tp_play.specs.declared.body.VariableType.{VariableType}
use Rattle.tp_play.specs.declared.body.VariableType.TheVariants as variable_type
use Rattle.tp_play.specs.declared.body.Body.{Body}
use Rattle.tp_play.specs.Fills.{needed, needed_by_wanted, filled, filled_wanted}

-- what a body can refer to: the record and record-of types, how many ports the component has, how many components the
-- references name, and what the body's variables hold
pub record Stage : Type 0 where
  pub types : Types
  pub ports : ℕ
  pub references : ℕ
  pub variables : List VariableType

-- the variable at this place holds values of this type
abbrev pub HoldsValues : Stage → ℕ → Ty → Type 0
HoldsValues s k u = slice_get s.variables k ≡ Some (variable_type.Message u)

-- the variable at this place holds components
abbrev pub HoldsComponents : Stage → ℕ → Type 0
HoldsComponents s k = slice_get s.variables k ≡ Some variable_type.Component

-- whatever integers the loop variables hold, the message has its type
abbrev pub IsAlwaysTyped : Types → SendMsg → Type 0
IsAlwaysTyped types m = (turns : List ℤ) → All (FitsSigned w64) turns → HasType types m.ty (filled turns m.value)

-- the wanted part fits its type
abbrev pub WantedFits : Types → MsgTemplate → Type 0
WantedFits types msg_template.Any = Unit {0}
WantedFits types (msg_template.Of u t) = Fits types u t

-- whatever integers the loop variables hold, the wanted part fits its type
abbrev pub IsAlwaysFitting : Types → RecvMsg → Type 0
IsAlwaysFitting types x = (turns : List ℤ) → All (FitsSigned w64) turns → WantedFits types (filled_wanted turns x)

-- a message that is written in the send: it mentions only the n loop variables around it, and has its type
pub record CanWrite (s : Stage) (n : ℕ) (m : SendMsg) : Type 0 where
  pub around : needed m.value ≤ n
  pub typed : IsAlwaysTyped s.types m

-- what is sent: a message that is written in the send, or the value of a variable of messages
abbrev pub CanSay : Stage → ℕ → Sent → Type 0
CanSay s n (sent.Written m) = CanWrite s n m
CanSay s n (sent.Variable k) = (u : Ty) × HoldsValues s k u

-- the receiver of a send: nobody, a reference that exists, a variable that holds components, or all
abbrev pub CanAddress : Stage → Receiver → Type 0
CanAddress s receiver.Nobody = Unit {0}
CanAddress s (receiver.Reference k) = k < s.references
CanAddress s (receiver.Variable k) = HoldsComponents s k
CanAddress s receiver.All = Unit {0}

-- a send
pub record CanSend (s : Stage) (n : ℕ) (x : SendOperation) : Type 0 where
  pub port : x.port < s.ports
  pub sent : CanSay s n x.sent
  pub to : CanAddress s x.to

-- the wanted part: the template mentions only the n loop variables around it, and fits its type
pub record CanWant (s : Stage) (n : ℕ) (x : RecvMsg) : Type 0 where
  pub around : needed_by_wanted x ≤ n
  pub fits : IsAlwaysFitting s.types x

-- the reference after `from`, if there is one, exists
abbrev pub CanExpect : Stage → Option ℕ → Type 0
CanExpect s None = Unit {0}
CanExpect s (Some k) = k < s.references

-- the variable after `value`, if there is one, holds values of the wanted type
abbrev pub CanKeepValue : Stage → RecvMsg → Option ℕ → Type 0
CanKeepValue s x None = Unit {0}
CanKeepValue s recv_msg.Any (Some k) = ⊥
CanKeepValue s (recv_msg.Of u r) (Some k) = HoldsValues s k u

-- the variable after `sender`, if there is one, holds components
abbrev pub CanKeepSender : Stage → Option ℕ → Type 0
CanKeepSender s None = Unit {0}
CanKeepSender s (Some k) = HoldsComponents s k

-- a receiving operation
pub record CanReceive (s : Stage) (n : ℕ) (x : Receiving) : Type 0 where
  pub port : x.port < s.ports
  pub wanted : CanWant s n x.wanted
  pub sender : CanExpect s x.sender
  pub value_to : CanKeepValue s x.wanted x.value_to
  pub sender_to : CanKeepSender s x.sender_to

-- each item of the list can be executed with n loop variables around it
abbrev pub Each : {X : Type 0} → (X → ℕ → Type 0) → ℕ → List X → Type 0
Each can n [] = Unit {0}
Each can n (x ∷ xs) = can x n × Each can n xs

-- the same for a block that may be missing
abbrev pub EachElse : {X : Type 0} → (X → ℕ → Type 0) → ℕ → Option (List X) → Type 0
EachElse can n None = Unit {0}
EachElse can n (Some xs) = Each can n xs

-- one layer of a statement: inside a `for` there is one more loop variable
abbrev pub statement_plays :
    Stage → (X Y : Type 0) → (X → ResolvedStatement) → (Y → ResolvedBranch) → (X → ℕ → Type 0) → (Y → ℕ → Type 0)
    → o.ResolvedStatement-F X Y → ℕ → Type 0
statement_plays s X Y statement branch plays enters (o.Send x) n = CanSend s n x
statement_plays s X Y statement branch plays enters (o.Receive x) n = CanReceive s n x
statement_plays s X Y statement branch plays enters (o.Control k x) n = k < s.ports
statement_plays s X Y statement branch plays enters (o.AllPorts x) n = Unit {0}
statement_plays s X Y statement branch plays enters (o.SetVerdict x) n = Unit {0}
statement_plays s X Y statement branch plays enters (o.Alt branches otherwise) n =
    Each enters n branches × EachElse plays n otherwise
statement_plays s X Y statement branch plays enters (o.For first bound block) n = Each plays (n + 1) block

-- one layer of a branch: its operation, and its block
abbrev pub branch_plays :
    Stage → (X Y : Type 0) → (X → ResolvedStatement) → (Y → ResolvedBranch) → (X → ℕ → Type 0) → (Y → ℕ → Type 0)
    → o.ResolvedBranch-F X Y → ℕ → Type 0
branch_plays s X Y statement branch plays enters x n = CanReceive s n x.receiving × Each plays n x.block

-- the statement can be executed with n loop variables around it
unfoldable pub CanPlay : Stage → ℕ → ResolvedStatement → Type 0
CanPlay s n x = rec-ResolvedStatement (ℕ → Type 0) (ℕ → Type 0) (statement_plays s) (branch_plays s) x n

-- the branch can be executed with n loop variables around it
unfoldable pub CanEnter : Stage → ℕ → ResolvedBranch → Type 0
CanEnter s n x = rec-ResolvedBranch (ℕ → Type 0) (ℕ → Type 0) (statement_plays s) (branch_plays s) x n

-- each statement of the block can be executed
abbrev pub CanPlayAll : Stage → ℕ → List ResolvedStatement → Type 0
CanPlayAll s n block = Each (λ x m. CanPlay s m x) n block

-- each branch of the `alt` can be executed
abbrev pub CanEnterAll : Stage → ℕ → List ResolvedBranch → Type 0
CanEnterAll s n branches = Each (λ x m. CanEnter s m x) n branches

-- what the body of a component with so many ports and references can refer to
abbrev pub stage_of : Types → ℕ → ℕ → Body → Stage
stage_of types ports references body =
    record { types = types; ports = ports; references = references; variables = body.variables }

-- a component with so many ports can execute the body, if its references name so many components
pub record IsPlayable (types : Types) (ports references : ℕ) (body : Body) : Type 0 where
  -- no loop variable is around its statements
  pub statements : CanPlayAll (stage_of types ports references body) 0 body.statements
