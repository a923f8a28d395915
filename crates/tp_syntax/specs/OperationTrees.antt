-- The trees of operations and their parts.
use Rattle.std.specs.Prelude.{ℕ, Bool, true, false, List, [], ◌∷◌, Option, Some, None}
use Rattle.tp_syntax.specs.declared.word.Word.TheVariants as w
use Rattle.tp_syntax.specs.declared.token.Symbol.TheVariants.{Arrow, Assign, Colon, LeftParen, Less, Plus, RightParen}
use Rattle.tp_syntax.specs.declared.token.Symbol.TheVariants.{Semicolon}
use Rattle.tp_syntax.specs.Lexeme.{name, number, word}
use Rattle.tp_common.specs.declared.operation.PortOperation.{PortOperation}
use Rattle.tp_common.specs.declared.operation.PortOperation.TheVariants as port_operation
use Rattle.tp_common.specs.declared.operation.ReceiveKind.{ReceiveKind}
use Rattle.tp_common.specs.declared.operation.ReceiveKind.TheVariants as receive_kind
use Rattle.tp_tree.specs.declared.message.MessageTemplate.{MessageTemplate}
use Rattle.tp_tree.specs.declared.message.TypeName.{TypeName}
use Rattle.tp_tree.specs.declared.message.TypeName.TheVariants as type_name
use Rattle.tp_tree.specs.declared.tree.ComponentName.{ComponentName}
use Rattle.tp_tree.specs.declared.tree.ComponentName.TheVariants as component
use Rattle.tp_tree.specs.declared.tree.Receivers.{Receivers}
use Rattle.tp_tree.specs.declared.tree.Receivers.TheVariants as receivers_of
use Rattle.tp_tree.specs.declared.tree.Redirect.{Redirect}
use Rattle.tp_tree.specs.declared.tree.SentExpression.{SentExpression}
use Rattle.tp_tree.specs.declared.tree.SentExpression.TheVariants as sent_as
use Rattle.tp_tree.specs.declared.tree.Turns.{Turns}
use Rattle.tp_tree.specs.declared.tree.VerdictName.{VerdictName}
use Rattle.tp_tree.specs.declared.tree.VerdictName.TheVariants as verdict
use Rattle.tp_syntax.specs.Rule.{a_predefined, a_type, addressees, control_word, may_have_from, may_have_sender}
use Rattle.tp_syntax.specs.Rule.{may_have_template, may_have_value, other_operation, received, receivers, receiving}
use Rattle.tp_syntax.specs.Rule.{redirect, redirected, sent, set_verdict, turns, verdict_word, who}
use Rattle.tp_syntax.specs.Reading.{Tree, leaf, none, of, tree, one, sym, nothing}
use Rattle.tp_syntax.specs.TemplateTrees.{integer_tree, template_tree}
use Rattle.tp_syntax.specs.ValueTrees.{value_tree}
use Rattle.tp_syntax.specs.declared.operations.OtherOperation.{OtherOperation}
use Rattle.tp_syntax.specs.declared.operations.OtherOperation.TheVariants as other

abbrev pub predefined_tree : TypeName → Tree
predefined_tree type_name.Integer = of a_predefined (one (leaf (word w.Integer)))
predefined_tree type_name.Boolean = of a_predefined (one (leaf (word w.Boolean)))
predefined_tree type_name.Charstring = of a_predefined (one (leaf (word w.Charstring)))
predefined_tree (type_name.Named n) = nothing

abbrev pub is_predefined : TypeName → Bool
is_predefined (type_name.Named n) = false
is_predefined _ = true

abbrev pub type_tree : TypeName → Tree
type_tree (type_name.Named n) = of a_type (one (leaf (name n)))
type_tree t = of a_type (one (predefined_tree t))

abbrev pub component_tree : ComponentName → Tree
component_tree component.Mtc = of who (one (leaf (word w.Mtc)))
component_tree component.SelfComponent = of who (one (leaf (word w.SelfWord)))
component_tree (component.Named n) = of who (one (leaf (name n)))

-- the tree of what is sent: a message, by its type, or a variable
abbrev pub message_sent : TypeName → Tree → Tree
message_sent (type_name.Named n) v =
    tree sent (leaf (name n) ∷ tree may_have_value (sym Colon ∷ v ∷ []) ∷ [])
message_sent t v = tree sent (predefined_tree t ∷ sym Colon ∷ v ∷ [])

abbrev pub sent_tree : SentExpression → Tree
sent_tree (sent_as.Message m) = message_sent m.type_name (value_tree m.value)
sent_tree (sent_as.Variable n) = tree sent (leaf (name n) ∷ of may_have_value none ∷ [])

abbrev pub receivers_tree : Option Receivers → Tree
receivers_tree None = of receivers none
receivers_tree (Some receivers_of.AllComponents) =
    tree receivers
    (leaf (word w.To) ∷ tree addressees (leaf (word w.All) ∷ leaf (word w.Component) ∷ []) ∷ [])
receivers_tree (Some (receivers_of.Component c)) =
    tree receivers (leaf (word w.To) ∷ of addressees (one (component_tree c)) ∷ [])

abbrev pub template_part : Option MessageTemplate → Tree
template_part None = of may_have_template none
template_part (Some m) =
    tree may_have_template (sym LeftParen ∷ type_tree m.type_name ∷ sym Colon
    ∷ template_tree m.template ∷ sym RightParen ∷ [])

abbrev pub from_tree : Option ComponentName → Tree
from_tree None = of may_have_from none
from_tree (Some c) = tree may_have_from (leaf (word w.From) ∷ component_tree c ∷ [])

abbrev pub sender_tree : Option (List ℕ) → Tree
sender_tree None = of may_have_sender none
sender_tree (Some n) = tree may_have_sender (leaf (word w.Sender) ∷ leaf (name n) ∷ [])

abbrev pub redirect_parts : Option (List ℕ) → Option (List ℕ) → Tree
redirect_parts None None = of redirect none
redirect_parts None (Some s) =
    tree redirect (sym Arrow ∷ tree redirected (leaf (word w.Sender) ∷ leaf (name s) ∷ []) ∷ [])
redirect_parts (Some v) s =
    tree redirect
    (sym Arrow ∷ tree redirected (leaf (word w.Value) ∷ leaf (name v) ∷ sender_tree s ∷ []) ∷ [])

abbrev pub redirect_tree : Redirect → Tree
redirect_tree r = redirect_parts r.value r.sender

abbrev pub received_tree : Option MessageTemplate → Option ComponentName → Redirect → Tree
received_tree t s d = tree received (template_part t ∷ from_tree s ∷ redirect_tree d ∷ [])

abbrev pub kind_tree : ReceiveKind → Tree → Tree
kind_tree receive_kind.Receive t = tree receiving (leaf (word w.Receive) ∷ t ∷ [])
kind_tree receive_kind.Trigger t = tree receiving (leaf (word w.Trigger) ∷ t ∷ [])
kind_tree receive_kind.Check t =
    tree receiving
    (leaf (word w.Check) ∷ sym LeftParen ∷ leaf (word w.Receive) ∷ t ∷ sym RightParen ∷ [])

abbrev pub receiving_tree : ReceiveKind → Option MessageTemplate → Option ComponentName → Redirect
    → Tree
receiving_tree k t s d = kind_tree k (received_tree t s d)

abbrev pub send_tree : SentExpression → Option Receivers → Tree
send_tree s to =
    tree other_operation
    (leaf (word w.Send) ∷ sym LeftParen ∷ sent_tree s ∷ sym RightParen ∷ receivers_tree to ∷ [])

abbrev pub operation_word : PortOperation → Tree
operation_word port_operation.Start = leaf (word w.Start)
operation_word port_operation.Stop = leaf (word w.Stop)
operation_word port_operation.Halt = leaf (word w.Halt)
operation_word port_operation.Clear = leaf (word w.Clear)

abbrev pub control_tree : PortOperation → Tree
control_tree o = of control_word (one (operation_word o))

abbrev pub verdict_leaf : VerdictName → Tree
verdict_leaf verdict.NoVerdict = leaf (word w.NoneWord)
verdict_leaf verdict.Pass = leaf (word w.Pass)
verdict_leaf verdict.Inconc = leaf (word w.Inconc)
verdict_leaf verdict.Fail = leaf (word w.Fail)
verdict_leaf verdict.Error = leaf (word w.Error)

abbrev pub verdict_tree : VerdictName → Tree
verdict_tree v = of verdict_word (one (verdict_leaf v))

abbrev pub set_verdict_tree : VerdictName → Tree
set_verdict_tree v =
    tree set_verdict
    (leaf (word w.Setverdict) ∷ sym LeftParen ∷ verdict_tree v ∷ sym RightParen ∷ [])

abbrev pub turns_tree : Turns → Tree
turns_tree t =
    tree turns
    (sym LeftParen ∷ leaf (word w.Var) ∷ leaf (word w.Integer) ∷ leaf (name t.name) ∷ sym Assign
    ∷ integer_tree t.first ∷ sym Semicolon
    ∷ leaf (name t.name) ∷ sym Less ∷ integer_tree t.bound ∷ sym Semicolon
    ∷ leaf (name t.name) ∷ sym Assign ∷ leaf (name t.name) ∷ sym Plus ∷ leaf (number 1)
    ∷ sym RightParen ∷ [])

-- an operation on a port other than `start`
abbrev pub operation_tree : OtherOperation → Tree
operation_tree (other.Send s to) = send_tree s to
operation_tree (other.Receive r) =
    of other_operation
    (one (receiving_tree r.kind r.received.template r.received.sender r.received.redirect))
operation_tree other.Stop = of other_operation (one (leaf (word w.Stop)))
operation_tree other.Halt = of other_operation (one (leaf (word w.Halt)))
operation_tree other.Clear = of other_operation (one (leaf (word w.Clear)))
