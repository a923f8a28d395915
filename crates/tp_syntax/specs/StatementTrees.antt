-- The trees of statements.
use Rattle.std.specs.Prelude.{ℕ, Bool, List, [], ◌∷◌, ◌++◌, map, Option, Some, None, true, false}
use Rattle.tp_syntax.specs.declared.word.Word.TheVariants as w
use Rattle.tp_syntax.specs.declared.token.Symbol.TheVariants.{Dot, LeftBrace, LeftBracket, RightBracket}
use Rattle.tp_syntax.specs.Lexeme.{name, word}
use Rattle.tp_common.specs.declared.operation.PortOperation.{PortOperation}
use Rattle.tp_common.specs.declared.operation.PortOperation.TheVariants as port_operation
use Rattle.tp_tree.specs.declared.tree.Action.{Action}
use Rattle.tp_tree.specs.declared.tree.Action.TheOpen as s
use Rattle.tp_tree.specs.declared.tree.Action.TheFolds.{fold-Action, fold-BranchBody, fold-Branch, fold-Counted}
use Rattle.tp_tree.specs.declared.tree.Action.TheFolds.{fold-ElseBranch, fold-Statement}
use Rattle.tp_tree.specs.declared.tree.Branch.{Branch}
use Rattle.tp_tree.specs.declared.tree.BranchBody.{BranchBody}
use Rattle.tp_tree.specs.declared.tree.Counted.{Counted}
use Rattle.tp_tree.specs.declared.tree.ElseBranch.{ElseBranch}
use Rattle.tp_tree.specs.declared.tree.Receive.{Receive}
use Rattle.tp_tree.specs.declared.tree.Statement.{Statement}
use Rattle.tp_tree.specs.declared.tree.VerdictName.{VerdictName}
use Rattle.tp_syntax.specs.Rule.{a_branch, a_reception, a_statement, after_bracket, all_ports, an_otherwise, compound}
use Rattle.tp_syntax.specs.Rule.{end_of_branch, end_of_plain, end_of_reception, more_branches, named, named_operation}
use Rattle.tp_syntax.specs.Rule.{other_operation, plain, statements}
use Rattle.tp_syntax.specs.Reading.{Tree, leaf, of, tree, one, sym}
use Rattle.tp_syntax.specs.Parsing.{Frame, frame, under, all_frames, enter, end_frames, closing_tree, may_end_tree}
use Rattle.tp_syntax.specs.OperationTrees.{control_tree, operation_word, receiving_tree, send_tree, set_verdict_tree}
use Rattle.tp_syntax.specs.OperationTrees.{turns_tree, operation_tree}
use Rattle.tp_syntax.specs.declared.statements.Plain.{Plain}
use Rattle.tp_syntax.specs.declared.statements.Plain.TheVariants as plain_as

-- what a statement does: the tree of an `alt` or a `for`; a verdict; an operation on all ports; the start of a port;
-- another operation on a port, with its tree
pub data Shape : Type 0 where
  compounded : Tree → Shape
  verdict_set : VerdictName → Shape
  on_all_ports : PortOperation → Shape
  port_started : List ℕ → Shape
  on_port : List ℕ → Tree → Shape

-- a statement: its line, what it does, and whether it has a `;`
pub record Step : Type 0 where
  pub line : ℕ
  pub shape : Shape
  pub semicolon : Bool

-- a branch of an `alt`: its line, its port, the tree of its receiving operation, that of its block, and whether it has
-- a `;`
pub record BranchView : Type 0 where
  pub line : ℕ
  pub port : List ℕ
  pub operation : Tree
  pub body : Option Tree
  pub semicolon : Bool

-- `[else]`: its line, the tree of its block, and whether it has a `;`
pub record ElseView : Type 0 where
  pub line : ℕ
  pub block : Tree
  pub semicolon : Bool

-- an operation on a port, after its dot
abbrev pub named_tree : List ℕ → Tree → Tree
named_tree n t = tree named (leaf (name n) ∷ sym Dot ∷ of named_operation (one t) ∷ [])

-- an operation on all ports
abbrev pub all_ports_tree : PortOperation → Tree
all_ports_tree o =
    tree all_ports (leaf (word w.All) ∷ leaf (word w.Port) ∷ sym Dot ∷ control_tree o ∷ [])

abbrev pub plain_tree : Shape → Tree
plain_tree (verdict_set v) = of plain (one (set_verdict_tree v))
plain_tree (on_all_ports o) = of plain (one (all_ports_tree o))
plain_tree (port_started n) = of plain (one (named_tree n (leaf (word w.Start))))
plain_tree (on_port n t) = of plain (one (named_tree n t))
plain_tree (compounded t) = t

abbrev pub shape_frames : ℕ → Shape → Bool → List Frame
shape_frames line (compounded t) b =
    frame a_statement (Some line) (t ∷ may_end_tree b ∷ []) ∷ enter statements
shape_frames line x b =
    frame a_statement (Some line) (plain_tree x ∷ []) ∷ end_frames end_of_plain statements b

abbrev pub step_frames : Step → List Frame
step_frames s = shape_frames s.line s.shape s.semicolon

-- statements and the `}` after them
abbrev pub block_tree : List Step → Tree
block_tree ss = under (enter statements ++ all_frames step_frames ss) closing_tree

-- the frames after the operation of a branch
abbrev pub body_frames : Option Tree → Bool → List Frame
body_frames (Some block) b =
    frame end_of_branch None (sym LeftBrace ∷ block ∷ may_end_tree b ∷ []) ∷ enter more_branches
body_frames None b = enter end_of_branch ++ end_frames end_of_reception more_branches b

abbrev pub reception_frames : BranchView → List Frame
reception_frames b =
    frame a_reception None (sym RightBracket ∷ leaf (name b.port) ∷ sym Dot ∷ b.operation ∷ [])
    ∷ body_frames b.body b.semicolon

abbrev pub bracket_frames : ℕ → List Frame
bracket_frames line = frame a_branch (Some line) (sym LeftBracket ∷ []) ∷ enter after_bracket

abbrev pub branch_frames : BranchView → List Frame
branch_frames b = bracket_frames b.line ++ reception_frames b

abbrev pub otherwise_tree : Tree → Bool → Tree
otherwise_tree block b =
    tree an_otherwise (leaf (word w.Else) ∷ sym RightBracket ∷ sym LeftBrace ∷ block
    ∷ may_end_tree b ∷ closing_tree ∷ [])

-- the tree after the branches: a `}`, or `[else]`
abbrev pub after_branches : Option ElseView → Tree
after_branches None = closing_tree
after_branches (Some e) = under (bracket_frames e.line) (otherwise_tree e.block e.semicolon)

abbrev pub branches_tree : List BranchView → Option ElseView → Tree
branches_tree bs e = under (all_frames branch_frames bs) (after_branches e)

abbrev pub control_shape : List ℕ → PortOperation → Shape
control_shape n port_operation.Start = port_started n
control_shape n o = on_port n (of other_operation (one (operation_word o)))

abbrev pub operation_of : Receive → Tree
operation_of r = receiving_tree r.kind r.template r.sender r.redirect

abbrev pub action_step : s.Action-F Shape (Option Tree) BranchView Tree ElseView Step → Shape
action_step (s.Send x) = on_port x.port (send_tree x.sent x.to)
action_step (s.Receive x) = on_port x.port (of other_operation (one (operation_of x)))
action_step (s.Control x) = control_shape x.port x.operation
action_step (s.AllPorts o) = on_all_ports o
action_step (s.SetVerdict v) = verdict_set v
action_step (s.Alt bs e) =
    compounded (tree compound (leaf (word w.Alt) ∷ sym LeftBrace ∷ branches_tree bs e ∷ []))
action_step (s.For t) = compounded t

abbrev pub body_step : s.BranchBody-F Shape (Option Tree) BranchView Tree ElseView Step
    → Option Tree
body_step s.Nothing = None
body_step (s.Block ss) = Some (block_tree ss)

abbrev pub branch_step : s.Branch-F Shape (Option Tree) BranchView Tree ElseView Step → BranchView
branch_step b = record {
  line = b.line;
  port = b.receive.port;
  operation = operation_of b.receive;
  body = b.body;
  semicolon = b.has_semicolon;
}

abbrev pub counted_step : s.Counted-F Shape (Option Tree) BranchView Tree ElseView Step → Tree
counted_step c =
    tree compound
    (leaf (word w.For) ∷ turns_tree c.turns ∷ sym LeftBrace ∷ block_tree c.block ∷ [])

abbrev pub else_step : s.ElseBranch-F Shape (Option Tree) BranchView Tree ElseView Step → ElseView
else_step e = record { line = e.line; block = block_tree e.block; semicolon = e.has_semicolon }

abbrev pub statement_step : s.Statement-F Shape (Option Tree) BranchView Tree ElseView Step → Step
statement_step x = record { line = x.line; shape = x.action; semicolon = x.has_semicolon }

unfoldable pub shape_of : Action → Shape
shape_of =
    fold-Action Shape (Option Tree) BranchView Tree ElseView Step
    action_step body_step branch_step counted_step else_step statement_step

unfoldable pub body_of : BranchBody → Option Tree
body_of =
    fold-BranchBody Shape (Option Tree) BranchView Tree ElseView Step
    action_step body_step branch_step counted_step else_step statement_step

unfoldable pub branch_of : Branch → BranchView
branch_of =
    fold-Branch Shape (Option Tree) BranchView Tree ElseView Step
    action_step body_step branch_step counted_step else_step statement_step

unfoldable pub counted_tree : Counted → Tree
counted_tree =
    fold-Counted Shape (Option Tree) BranchView Tree ElseView Step
    action_step body_step branch_step counted_step else_step statement_step

unfoldable pub else_of : ElseBranch → ElseView
else_of =
    fold-ElseBranch Shape (Option Tree) BranchView Tree ElseView Step
    action_step body_step branch_step counted_step else_step statement_step

unfoldable pub step_of : Statement → Step
step_of =
    fold-Statement Shape (Option Tree) BranchView Tree ElseView Step
    action_step body_step branch_step counted_step else_step statement_step

-- the tree of a block; and the view of an `[else]`, if there is one
abbrev pub statements_tree : List Statement → Tree
statements_tree ss = block_tree (map step_of ss)

abbrev pub otherwise_of : Option ElseBranch → Option ElseView
otherwise_of None = None
otherwise_of (Some e) = Some (else_of e)

-- the tree of an `alt` or a `for`
abbrev pub compound_tree : Shape → Tree
compound_tree (compounded t) = t
compound_tree _ = closing_tree

-- a statement without a block, as the parser returns it
abbrev pub plain_shape : Plain → Shape
plain_shape (plain_as.SetVerdict v) = verdict_set v
plain_shape (plain_as.AllPorts o) = on_all_ports o
plain_shape (plain_as.Start n) = port_started n
plain_shape (plain_as.Named n o) = on_port n (operation_tree o)

-- the operation on a port, and whether it is one
abbrev pub named_part : Shape → Tree
named_part (port_started n) = named_tree n (leaf (word w.Start))
named_part (on_port n t) = named_tree n t
named_part _ = closing_tree

abbrev pub is_named : Shape → Bool
is_named (port_started n) = true
is_named (on_port n t) = true
is_named _ = false
