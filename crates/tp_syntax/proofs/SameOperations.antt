-- The parts of operations are told by their trees: what reads a tree back gives the part.
use Rattle.std.proofs.Common.{◌≡◌, ℕ, ℤ, pos, negsuc, List, [], Option, Some, None, refl, ap, ap₂}
use Rattle.tp_syntax.specs.declared.word.Word.{Word}
use Rattle.tp_syntax.specs.declared.word.Word.TheVariants as w
use Rattle.tp_syntax.specs.Lexeme.{name, word}
use Rattle.tp_common.specs.declared.operation.PortOperation.{PortOperation}
use Rattle.tp_common.specs.declared.operation.PortOperation.TheVariants as p
use Rattle.tp_common.specs.declared.operation.ReceiveKind.{ReceiveKind}
use Rattle.tp_common.specs.declared.operation.ReceiveKind.TheVariants as k
use Rattle.tp_tree.specs.declared.message.MessageTemplate.{MessageTemplate}
use Rattle.tp_tree.specs.declared.message.Template.{Template}
use Rattle.tp_tree.specs.declared.message.TypeName.{TypeName}
use Rattle.tp_tree.specs.declared.message.TypeName.TheVariants as t
use Rattle.tp_tree.specs.declared.message.Value.{Value}
use Rattle.tp_tree.specs.declared.tree.ComponentName.{ComponentName}
use Rattle.tp_tree.specs.declared.tree.ComponentName.TheVariants as c
use Rattle.tp_tree.specs.declared.tree.Receive.{Receive}
use Rattle.tp_tree.specs.declared.tree.Receivers.{Receivers}
use Rattle.tp_tree.specs.declared.tree.Receivers.TheVariants as r
use Rattle.tp_tree.specs.declared.tree.Redirect.{Redirect}
use Rattle.tp_tree.specs.declared.tree.SentExpression.{SentExpression}
use Rattle.tp_tree.specs.declared.tree.SentExpression.TheVariants as s
use Rattle.tp_tree.specs.declared.tree.Turns.{Turns}
use Rattle.tp_tree.specs.declared.tree.VerdictName.{VerdictName}
use Rattle.tp_tree.specs.declared.tree.VerdictName.TheVariants as v
use Rattle.tp_syntax.specs.Reading.{Tree, leaf, node, Trees, none, more}
use Rattle.tp_syntax.specs.TemplateTrees.{integer_tree}
use Rattle.tp_syntax.specs.ValueTrees.{value_tree}
use Rattle.tp_syntax.specs.OperationTrees.{component_tree, message_sent, sent_tree, receivers_tree, template_part, from_tree, redirect_parts, kind_tree, received_tree, control_tree, verdict_tree, turns_tree}
use Rattle.tp_syntax.specs.StatementTrees.{operation_of}
use Rattle.tp_syntax.proofs.SameValues.{integer_in, value_back, value_returns}
use Rattle.tp_syntax.proofs.SameTemplates.{template_back, template_returns}
use Rattle.tp_syntax.proofs.SameTypes.{predefined_back, type_back, type_returns}

-- components
abbrev pub component_back : Tree → ComponentName
component_back (node q l (more (leaf (name n)) ts)) = c.Named n
component_back (node q l (more (leaf (word w.Mtc)) ts)) = c.Mtc
component_back _ = c.SelfComponent

pub component_returns : (x : ComponentName) → component_back (component_tree x) ≡ x
component_returns (c.Named n) = refl
component_returns x = refl

-- what is sent, and to whom
abbrev message_of : TypeName → Value → SentExpression
message_of x y = s.Message (record { type_name = x; value = y })

abbrev pub sent_back : Tree → SentExpression
sent_back (node q l (more (leaf (name n)) (more (node o m none) ts))) = s.Variable n
sent_back (node q l (more (leaf (name n)) (more (node o m (more a (more y us))) ts))) = message_of (t.Named n) (value_back y)
sent_back (node q l (more (node o m (more (leaf (word x)) us)) (more a (more y ts)))) = message_of (predefined_back x) (value_back y)
sent_back _ = s.Variable []

message_returns : (x : TypeName) (y : Value) → sent_back (message_sent x (value_tree y)) ≡ message_of x y
message_returns (t.Named n) y = ap (message_of (t.Named n)) (value_returns y)
message_returns x y = ap (message_of x) (value_returns y)

pub sent_returns : (x : SentExpression) → sent_back (sent_tree x) ≡ x
sent_returns (s.Message m) = message_returns m.type_name m.value
sent_returns (s.Variable n) = refl

abbrev pub receivers_back : Tree → Option Receivers
receivers_back (node q l (more a (more (node o m (more x none)) ts))) = Some (r.Component (component_back x))
receivers_back (node q l (more a (more (node o m (more x (more y us))) ts))) = Some r.AllComponents
receivers_back _ = None

pub receivers_return : (x : Option Receivers) → receivers_back (receivers_tree x) ≡ x
receivers_return None = refl
receivers_return (Some r.AllComponents) = refl
receivers_return (Some (r.Component x)) = ap (λ (y : ComponentName). Some (r.Component y)) (component_returns x)

-- what is received
abbrev part_back : Tree → Option MessageTemplate
part_back (node q l (more a (more x (more b (more y ts))))) = Some (record { type_name = type_back x; template = template_back y })
part_back _ = None

part_returns : (x : Option MessageTemplate) → part_back (template_part x) ≡ x
part_returns None = refl
part_returns (Some m) =
    ap₂ (λ (x : TypeName) (y : Template). Some (record { type_name = x; template = y })) (type_returns m.type_name) (template_returns m.template)

abbrev from_back : Tree → Option ComponentName
from_back (node q l (more a (more x ts))) = Some (component_back x)
from_back _ = None

from_returns : (x : Option ComponentName) → from_back (from_tree x) ≡ x
from_returns None = refl
from_returns (Some x) = ap Some (component_returns x)

abbrev redirected_back : Trees → Redirect
redirected_back (more a (more (leaf (name x)) none)) = record { value = None; sender = Some x }
redirected_back (more a (more (leaf (name x)) (more (node q l (more b (more (leaf (name y)) us))) ts))) = record { value = Some x; sender = Some y }
redirected_back (more a (more (leaf (name x)) (more t ts))) = record { value = Some x; sender = None }
redirected_back _ = record { value = None; sender = None }

abbrev redirect_back : Tree → Redirect
redirect_back (node q l (more a (more (node o m us) ts))) = redirected_back us
redirect_back _ = record { value = None; sender = None }

redirect_returns : (x y : Option (List ℕ)) → redirect_back (redirect_parts x y) ≡ record { value = x; sender = y }
redirect_returns None None = refl
redirect_returns None (Some y) = refl
redirect_returns (Some x) None = refl
redirect_returns (Some x) (Some y) = refl

abbrev received_back : List ℕ → ReceiveKind → Tree → Receive
received_back n x (node q l (more a (more b (more d ts)))) =
    record { port = n; kind = x; template = part_back a; sender = from_back b; redirect = redirect_back d }
received_back n x _ = record { port = n; kind = x; template = None; sender = None; redirect = record { value = None; sender = None } }

-- the receiving operation of this port
abbrev pub receive_back : List ℕ → Tree → Receive
receive_back n (node q l (more (leaf (word w.Receive)) (more a ts))) = received_back n k.Receive a
receive_back n (node q l (more (leaf (word w.Trigger)) (more a ts))) = received_back n k.Trigger a
receive_back n (node q l (more b (more d (more e (more a ts))))) = received_back n k.Check a
receive_back n t = received_back n k.Check t

received_returns : (n : List ℕ) (x : ReceiveKind) (m : Option MessageTemplate) (f : Option ComponentName) (d : Redirect)
    → received_back n x (received_tree m f d) ≡ record { port = n; kind = x; template = m; sender = f; redirect = d }
received_returns n x m f d = rw (part_returns m, from_returns f, redirect_returns d.value d.sender) refl

kind_returns : (n : List ℕ) (x : ReceiveKind) (m : Option MessageTemplate) (f : Option ComponentName) (d : Redirect)
    → receive_back n (kind_tree x (received_tree m f d)) ≡ record { port = n; kind = x; template = m; sender = f; redirect = d }
kind_returns n k.Receive m f d = received_returns n k.Receive m f d
kind_returns n x m f d = received_returns n x m f d

pub receive_returns : (x : Receive) → receive_back x.port (operation_of x) ≡ x
receive_returns x = kind_returns x.port x.kind x.template x.sender x.redirect

-- operations on ports, verdicts
abbrev pub operation_of_word : Word → PortOperation
operation_of_word w.Stop = p.Stop
operation_of_word w.Halt = p.Halt
operation_of_word w.Clear = p.Clear
operation_of_word _ = p.Start

abbrev pub control_back : Tree → PortOperation
control_back (node q l (more (leaf (word x)) ts)) = operation_of_word x
control_back _ = p.Start

pub control_returns : (x : PortOperation) → control_back (control_tree x) ≡ x
control_returns p.Start = refl
control_returns x = refl

abbrev pub verdict_back : Tree → VerdictName
verdict_back (node q l (more (leaf (word w.Pass)) ts)) = v.Pass
verdict_back (node q l (more (leaf (word w.Inconc)) ts)) = v.Inconc
verdict_back (node q l (more (leaf (word w.Fail)) ts)) = v.Fail
verdict_back (node q l (more (leaf (word w.Error)) ts)) = v.Error
verdict_back _ = v.NoVerdict

pub verdict_returns : (x : VerdictName) → verdict_back (verdict_tree x) ≡ x
verdict_returns v.NoVerdict = refl
verdict_returns x = refl

-- the head of a `for`
abbrev integer_back : Tree → ℤ
integer_back (node q l ts) = integer_in ts
integer_back (leaf t) = pos 0

integer_returns : (z : ℤ) → integer_back (integer_tree z) ≡ z
integer_returns (pos n) = refl
integer_returns (negsuc n) = refl

abbrev pub turns_back : Tree → Turns
turns_back (node q l (more a (more b (more d (more (leaf (name n)) (more e (more x (more f (more g (more h (more y ts))))))))))) =
    record { name = n; first = integer_back x; bound = integer_back y }
turns_back _ = record { name = []; first = pos 0; bound = pos 0 }

pub turns_return : (x : Turns) → turns_back (turns_tree x) ≡ x
turns_return x =
    ap₂ (λ (y z : ℤ). record { name = x.name; first = y; bound = z }) (integer_returns x.first) (integer_returns x.bound)
