-- Which rule is broken by a send or a receiving operation that stands for nothing: that of its first fault.
use Rattle.std.specs.Prelude.{◌≢◌, ℕ, List, Contains, Option, Some}
use Rattle.tp_value.specs.declared.types.{Ty.Ty, Types.Types}
use Rattle.tp_value.specs.declared.types.Ty.TheVariants as ty
use Rattle.tp_config.specs.declared.port_type.PortType.{PortType}
use Rattle.tp_tree.specs.declared.message.{Message.Message, MessageTemplate.MessageTemplate}
use Rattle.tp_tree.specs.declared.tree.{ComponentName.ComponentName, SentExpression.SentExpression, Receivers.Receivers}
use Rattle.tp_tree.specs.declared.tree.{Send.Send, Receive.Receive}
use Rattle.tp_tree.specs.declared.tree.ComponentName.TheVariants as component_name
use Rattle.tp_tree.specs.declared.tree.SentExpression.TheVariants as sent_text
use Rattle.tp_tree.specs.declared.tree.Receivers.TheVariants as destination
use Rattle.tp_play.specs.declared.body.{RecvTemplate.RecvTemplate, RecvMsg.RecvMsg, Sent.Sent}
use Rattle.tp_play.specs.declared.body.RecvMsg.TheVariants as recv_msg
use Rattle.tp_play.specs.declared.body.VariableType.TheVariants as variable_type
use Rattle.tp_checks.specs.declared.fault.ModuleRule.{ModuleRule}
use Rattle.tp_checks.specs.declared.fault.ModuleRule.TheVariants as rule
use Rattle.tp_checks.specs.{Named.IsPlace, Named.IsAbsent, Scoping.sendable_types, BrokenValues.ValueBreaks}
use Rattle.tp_checks.specs.Scoping.{IsPortNamed, IsReference, IsType, IsVariable, receivable_types, Visible}
use Rattle.tp_checks.specs.Bodies.{IsFrom, IsSent, IsValueTarget, IsWanted}
use Rattle.tp_checks.specs.BrokenTemplates.{TemplateBreaks}
use Rattle.tp_checks.specs.declared.scope.Variables.{Variables}

-- a name that no variable has, or that a loop variable hides: it is that of a loop variable, a parameter or a component
-- variable (13), or of none of them (11)
pub data NamesNoVariable (scope : Visible) (variables : Variables) (turns : List (List ℕ)) (name : List ℕ)
    : ModuleRule → Type 0 where
  turn : (k : ℕ) → IsPlace turns name k → NamesNoVariable scope variables turns name rule.WrongType
  parameter : IsAbsent turns name → IsAbsent variables.names name → Contains scope.parameters name
      → NamesNoVariable scope variables turns name rule.WrongType
  component : IsAbsent turns name → IsAbsent variables.names name → Contains scope.component_variables name
      → NamesNoVariable scope variables turns name rule.WrongType
  unknown : IsAbsent turns name → IsAbsent variables.names name → (Contains scope.parameters name → ⊥)
      → (Contains scope.component_variables name → ⊥) → NamesNoVariable scope variables turns name rule.Unknown

-- a name that should be that of a variable of messages: no variable has it, or the variable holds a component (13)
pub data NamesNoMessage (scope : Visible) (variables : Variables) (turns : List (List ℕ)) (name : List ℕ)
    : ModuleRule → Type 0 where
  no_variable : (r : ModuleRule) → NamesNoVariable scope variables turns name r
      → NamesNoMessage scope variables turns name r
  holds_component : (k : ℕ) → IsAbsent turns name → IsVariable variables name k variable_type.Component
      → NamesNoMessage scope variables turns name rule.WrongType

-- a name that should be that of a variable of components: no variable has it, or the variable holds messages (13)
pub data NamesNoComponent (scope : Visible) (variables : Variables) (turns : List (List ℕ)) (name : List ℕ)
    : ModuleRule → Type 0 where
  no_variable_either : (r : ModuleRule) → NamesNoVariable scope variables turns name r
      → NamesNoComponent scope variables turns name r
  holds_message : (k : ℕ) (u : Ty) → IsAbsent turns name → IsVariable variables name k (variable_type.Message u)
      → NamesNoComponent scope variables turns name rule.WrongType

-- a message that is written out: its type is unknown (11), the port doesn't send it (14), or the value breaks a rule
pub data MessageBreaks (types : Types) (variables : Variables) (turns : List (List ℕ)) (sendable : List Ty)
    (x : Message) : ModuleRule → Type 0 where
  no_type : ((u : Ty) → IsType types x.type_name u → ⊥)
      → MessageBreaks types variables turns sendable x rule.Unknown
  not_sendable : (u : Ty) → IsType types x.type_name u → (Contains sendable u → ⊥)
      → MessageBreaks types variables turns sendable x rule.Direction
  value : (u : Ty) (r : ModuleRule) → IsType types x.type_name u → Contains sendable u
      → ValueBreaks types variables turns u x.value r → MessageBreaks types variables turns sendable x r

-- a message or variable to send breaks this rule, given the types that can be sent at the port
pub data SentBreaks (scope : Visible) (variables : Variables) (turns : List (List ℕ)) (sendable : List Ty)
    : SentExpression → ModuleRule → Type 0 where
  written : (x : Message) (r : ModuleRule) → MessageBreaks scope.types variables turns sendable x r
      → SentBreaks scope variables turns sendable (sent_text.Message x) r
  -- a loop variable holds an integer, which the port doesn't send (14)
  counter : (n : List ℕ) (k : ℕ) → IsPlace turns n k → (Contains sendable ty.Integer → ⊥)
      → SentBreaks scope variables turns sendable (sent_text.Variable n) rule.Direction
  no_message : (n : List ℕ) (r : ModuleRule) → IsAbsent turns n
      → NamesNoMessage scope variables turns n r
      → SentBreaks scope variables turns sendable (sent_text.Variable n) r
  -- the port doesn't send what the variable holds (14)
  held : (n : List ℕ) (k : ℕ) (u : Ty) → IsAbsent turns n
      → IsVariable variables n k (variable_type.Message u) → (Contains sendable u → ⊥)
      → SentBreaks scope variables turns sendable (sent_text.Variable n) rule.Direction

-- the component after `to`: its name is that of a variable of messages (13), or neither that of a variable nor of
-- another component that is known there (11)
pub data ReceiverBreaks (scope : Visible) (variables : Variables) (turns : List (List ℕ))
    : Option Receivers → ModuleRule → Type 0 where
  to_message : (n : List ℕ) (k : ℕ) (u : Ty) → IsAbsent turns n
      → IsVariable variables n k (variable_type.Message u)
      → ReceiverBreaks scope variables turns (Some (destination.Component (component_name.Named n))) rule.WrongType
  to_nobody : (n : List ℕ) → (IsAbsent turns n → Contains variables.names n → ⊥)
      → ((k : ℕ) → IsReference scope variables turns (component_name.Named n) k → ⊥)
      → ReceiverBreaks scope variables turns (Some (destination.Component (component_name.Named n))) rule.Unknown

-- a send: the port is unknown (11), or what is sent breaks a rule, or, if that is valid, the component after `to` does
pub data SendBreaks (scope : Visible) (variables : Variables) (turns : List (List ℕ)) (x : Send)
    : ModuleRule → Type 0 where
  no_port : IsAbsent scope.ports.names x.port
      → SendBreaks scope variables turns x rule.Unknown
  sent : (k : ℕ) (port : PortType) (r : ModuleRule) → IsPortNamed scope x.port k port
      → SentBreaks scope variables turns (sendable_types scope.behaviour port) x.sent r → SendBreaks scope variables turns x r
  receiver : (k : ℕ) (port : PortType) (y : Sent) (r : ModuleRule)
      → IsPortNamed scope x.port k port
      → IsSent scope variables turns (sendable_types scope.behaviour port) x.sent y
      → ReceiverBreaks scope variables turns x.to r → SendBreaks scope variables turns x r

-- a wanted message, given the types that can be received at the port: its type is unknown (11), the port doesn't
-- receive it (14), or the template breaks a rule
pub data WantedBreaks (types : Types) (variables : Variables) (turns : List (List ℕ)) (receivable : List Ty)
    : Option MessageTemplate → ModuleRule → Type 0 where
  no_such_type : (x : MessageTemplate) → ((u : Ty) → IsType types x.type_name u → ⊥)
      → WantedBreaks types variables turns receivable (Some x) rule.Unknown
  not_receivable : (x : MessageTemplate) (u : Ty) → IsType types x.type_name u
      → (Contains receivable u → ⊥) → WantedBreaks types variables turns receivable (Some x) rule.Direction
  template : (x : MessageTemplate) (u : Ty) (r : ModuleRule) → IsType types x.type_name u
      → Contains receivable u → TemplateBreaks types variables turns u x.template r
      → WantedBreaks types variables turns receivable (Some x) r

-- the component after `from`: its name is that of a variable (13), or of nothing that is known there (11)
pub data FromBreaks (scope : Visible) (variables : Variables) (turns : List (List ℕ))
    : Option ComponentName → ModuleRule → Type 0 where
  from_variable : (n : List ℕ) → Contains variables.names n
      → FromBreaks scope variables turns (Some (component_name.Named n)) rule.WrongType
  from_nobody : (n : List ℕ) → (Contains variables.names n → ⊥)
      → ((k : ℕ) → IsReference scope variables turns (component_name.Named n) k → ⊥)
      → FromBreaks scope variables turns (Some (component_name.Named n)) rule.Unknown

-- the variable after `value`: it isn't a variable of messages; or it holds another type than the template's, or there
-- is no template (13)
pub data ValueTargetBreaks (scope : Visible) (variables : Variables) (turns : List (List ℕ)) (wanted : RecvMsg)
    : Option (List ℕ) → ModuleRule → Type 0 where
  holds_no_message : (n : List ℕ) (r : ModuleRule) → NamesNoMessage scope variables turns n r
      → ValueTargetBreaks scope variables turns wanted (Some n) r
  holds_other : (n : List ℕ) (k : ℕ) (u : Ty) → IsAbsent turns n
      → IsVariable variables n k (variable_type.Message u)
      → ((t : RecvTemplate) → wanted ≢ recv_msg.Of u t)
      → ValueTargetBreaks scope variables turns wanted (Some n) rule.WrongType

-- the variable after `sender`: it isn't a variable of components
pub data SenderTargetBreaks (scope : Visible) (variables : Variables) (turns : List (List ℕ))
    : Option (List ℕ) → ModuleRule → Type 0 where
  holds_no_component : (n : List ℕ) (r : ModuleRule)
      → NamesNoComponent scope variables turns n r
      → SenderTargetBreaks scope variables turns (Some n) r

-- a receiving operation: the port is unknown (11), or one of its parts breaks a rule and those before it are valid
pub data ReceiveBreaks (scope : Visible) (variables : Variables) (turns : List (List ℕ)) (x : Receive)
    : ModuleRule → Type 0 where
  at_no_port : IsAbsent scope.ports.names x.port
      → ReceiveBreaks scope variables turns x rule.Unknown
  wanted : (k : ℕ) (port : PortType) (r : ModuleRule) → IsPortNamed scope x.port k port
      → WantedBreaks scope.types variables turns (receivable_types scope.behaviour port) x.template r
      → ReceiveBreaks scope variables turns x r
  from : (k : ℕ) (port : PortType) (m : RecvMsg) (r : ModuleRule)
      → IsPortNamed scope x.port k port
      → IsWanted scope turns (receivable_types scope.behaviour port) x.template m
      → FromBreaks scope variables turns x.sender r → ReceiveBreaks scope variables turns x r
  value_target : (k : ℕ) (port : PortType) (m : RecvMsg) (c : Option ℕ) (r : ModuleRule)
      → IsPortNamed scope x.port k port
      → IsWanted scope turns (receivable_types scope.behaviour port) x.template m
      → IsFrom scope variables turns x.sender c
      → ValueTargetBreaks scope variables turns m x.redirect.value r → ReceiveBreaks scope variables turns x r
  sender_target : (k : ℕ) (port : PortType) (m : RecvMsg) (c v : Option ℕ) (r : ModuleRule)
      → IsPortNamed scope x.port k port
      → IsWanted scope turns (receivable_types scope.behaviour port) x.template m
      → IsFrom scope variables turns x.sender c → IsValueTarget variables turns m x.redirect.value v
      → SenderTargetBreaks scope variables turns x.redirect.sender r → ReceiveBreaks scope variables turns x r
