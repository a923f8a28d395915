-- The trees of statements, an equation for each variant.
use Rattle.std.proofs.Common.{◌≡◌, ℕ, Bool, true, List, [], ◌∷◌, Option, Some, None, map, refl, ap, sym, ◌∙◌}
use Rattle.std.proofs.lemmas.Bool.{false≢true}
use Rattle.tp_syntax.specs.declared.word.Word.TheVariants as w
use Rattle.tp_syntax.specs.declared.token.Symbol.TheVariants.{LeftBrace}
use Rattle.tp_syntax.specs.Lexeme.{word}
use Rattle.tp_common.specs.declared.operation.PortOperation.{PortOperation}
use Rattle.tp_tree.specs.declared.tree.Action.{Action}
use Rattle.tp_tree.specs.declared.tree.Action.TheVariants as a
use Rattle.tp_tree.specs.declared.tree.Action.TheOpen as o
use Rattle.tp_tree.specs.declared.tree.Action.TheFolds.{map-Action, fold-roll-Action, fold-roll-BranchBody, fold-roll-Branch, fold-roll-Counted, fold-roll-ElseBranch, fold-roll-Statement}
use Rattle.tp_tree.specs.declared.tree.Action.TheViews.{roll-Action, roll-Branch, roll-Counted, roll-ElseBranch, roll-Statement}
use Rattle.tp_tree.specs.declared.tree.Branch.{Branch}
use Rattle.tp_tree.specs.declared.tree.BranchBody.{BranchBody}
use Rattle.tp_tree.specs.declared.tree.BranchBody.TheVariants as b
use Rattle.tp_tree.specs.declared.tree.Control.{Control}
use Rattle.tp_tree.specs.declared.tree.Counted.{Counted}
use Rattle.tp_tree.specs.declared.tree.ElseBranch.{ElseBranch}
use Rattle.tp_tree.specs.declared.tree.Receive.{Receive}
use Rattle.tp_tree.specs.declared.tree.Send.{Send}
use Rattle.tp_tree.specs.declared.tree.Statement.{Statement}
use Rattle.tp_tree.specs.declared.tree.Turns.{Turns}
use Rattle.tp_tree.specs.declared.tree.VerdictName.{VerdictName}
use Rattle.tp_syntax.specs.Rule.{a_branch, a_statement, compound, end_of_plain, end_of_reception, more_branches, other_operation, plain, statements}
use Rattle.tp_syntax.specs.Reading.{Tree, leaf, more, of, one, sym as symbol_leaf}
use Rattle.tp_syntax.specs.declared.cursor.Parser.{Parser}
use Rattle.tp_syntax.specs.declared.parts.End.{End}
use Rattle.tp_syntax.specs.declared.statements.Plain.{Plain}
use Rattle.tp_syntax.specs.declared.statements.Plain.TheVariants as p
use Rattle.tp_syntax.specs.Parsing.{Ends, Enters, Leads, enter, end_frames, frame, part_or_end, left}
use Rattle.tp_syntax.specs.OperationTrees.{send_tree, turns_tree}
use Rattle.tp_syntax.specs.StatementTrees.{is_named, named_part, plain_shape, BranchView, ElseView, Shape, Step, action_step, body_of, body_step, branch_of, branch_step, branches_tree, compounded, control_shape, counted_step, counted_tree, else_of, else_step, operation_of, otherwise_of, on_all_ports, on_port, plain_tree, port_started, shape_frames, shape_of, statement_step, statements_tree, step_of, verdict_set}
use Rattle.tp_syntax.proofs.ReadingGoesOn.{leading}
use Rattle.tp_syntax.proofs.StepsOfReading.{parsing}

pub action_at : (z : o.Action-F Action BranchBody Branch Counted ElseBranch Statement)
    → shape_of (roll-Action z) ≡ action_step (map-Action Action BranchBody Branch Counted ElseBranch Statement
    Shape (Option Tree) BranchView Tree ElseView Step shape_of body_of branch_of counted_tree else_of step_of z)
unfolding shape_of body_of branch_of counted_tree else_of step_of
action_at z = fold-roll-Action Shape (Option Tree) BranchView Tree ElseView Step action_step body_step branch_step counted_step else_step statement_step z

pub shape_send : (x : Send) → shape_of (a.Send x) ≡ on_port x.port (send_tree x.sent x.to)
shape_send x = ap shape_of (sym (a.rolls-Send x)) ∙ action_at (o.Send x)

pub shape_receive : (x : Receive) → shape_of (a.Receive x) ≡ on_port x.port (of other_operation (one (operation_of x)))
shape_receive x = ap shape_of (sym (a.rolls-Receive x)) ∙ action_at (o.Receive x)

pub shape_control : (x : Control) → shape_of (a.Control x) ≡ control_shape x.port x.operation
shape_control x = ap shape_of (sym (a.rolls-Control x)) ∙ action_at (o.Control x)

pub shape_all_ports : (x : PortOperation) → shape_of (a.AllPorts x) ≡ on_all_ports x
shape_all_ports x = ap shape_of (sym (a.rolls-AllPorts x)) ∙ action_at (o.AllPorts x)

pub shape_set_verdict : (x : VerdictName) → shape_of (a.SetVerdict x) ≡ verdict_set x
shape_set_verdict x = ap shape_of (sym (a.rolls-SetVerdict x)) ∙ action_at (o.SetVerdict x)

abbrev pub alt_shape : List Branch → Option ElseBranch → Shape
alt_shape bs e = compounded (of compound (more (leaf (word w.Alt)) (more (symbol_leaf LeftBrace) (one (branches_tree (map branch_of bs) (otherwise_of e))))))

pub shape_alt : (bs : List Branch) (e : Option ElseBranch) → shape_of (a.Alt bs e) ≡ alt_shape bs e
shape_alt bs None = ap shape_of (sym (a.rolls-Alt bs None)) ∙ action_at (o.Alt bs None)
shape_alt bs (Some e) = ap shape_of (sym (a.rolls-Alt bs (Some e))) ∙ action_at (o.Alt bs (Some e))

pub shape_for : (t : Turns) (ss : List Statement) → shape_of (a.For (roll-Counted (record { turns = t; block = ss })))
    ≡ compounded (of compound (more (leaf (word w.For)) (more (turns_tree t) (more (symbol_leaf LeftBrace) (one (statements_tree ss))))))
unfolding counted_tree step_of
shape_for t ss =
    ap shape_of (sym (a.rolls-For (roll-Counted (record { turns = t; block = ss }))))
    ∙ (action_at (o.For (roll-Counted (record { turns = t; block = ss })))
    ∙ ap compounded (fold-roll-Counted Shape (Option Tree) BranchView Tree ElseView Step action_step body_step branch_step counted_step else_step statement_step (record { turns = t; block = ss })))

pub body_nothing : body_of b.Nothing ≡ None
unfolding body_of
body_nothing = ap body_of (sym b.rolls-Nothing) ∙ fold-roll-BranchBody Shape (Option Tree) BranchView Tree ElseView Step action_step body_step branch_step counted_step else_step statement_step o.Nothing

pub body_block : (ss : List Statement) → body_of (b.Block ss) ≡ Some (statements_tree ss)
unfolding body_of step_of
body_block ss = ap body_of (sym (b.rolls-Block ss)) ∙ fold-roll-BranchBody Shape (Option Tree) BranchView Tree ElseView Step action_step body_step branch_step counted_step else_step statement_step (o.Block ss)

pub branch_made : (n : ℕ) (r : Receive) (x : BranchBody) (e : Bool) → branch_of (roll-Branch (record { line = n; receive = r; body = x; has_semicolon = e }))
    ≡ record { line = n; port = r.port; operation = operation_of r; body = body_of x; semicolon = e }
unfolding branch_of body_of
branch_made n r x e = fold-roll-Branch Shape (Option Tree) BranchView Tree ElseView Step action_step body_step branch_step counted_step else_step statement_step (record { line = n; receive = r; body = x; has_semicolon = e })

pub else_made : (n : ℕ) (ss : List Statement) (e : Bool) → else_of (roll-ElseBranch (record { line = n; block = ss; has_semicolon = e }))
    ≡ record { line = n; block = statements_tree ss; semicolon = e }
unfolding else_of step_of
else_made n ss e = fold-roll-ElseBranch Shape (Option Tree) BranchView Tree ElseView Step action_step body_step branch_step counted_step else_step statement_step (record { line = n; block = ss; has_semicolon = e })

pub step_made : (n : ℕ) (x : Action) (e : Bool) → step_of (roll-Statement (record { line = n; action = x; has_semicolon = e }))
    ≡ record { line = n; shape = shape_of x; semicolon = e }
unfolding step_of shape_of
step_made n x e = fold-roll-Statement Shape (Option Tree) BranchView Tree ElseView Step action_step body_step branch_step counted_step else_step statement_step (record { line = n; action = x; has_semicolon = e })

-- statements without a block
pub named_plain : (s : Shape) → is_named s ≡ true → plain_tree s ≡ of plain (one (named_part s))
named_plain (port_started n) e = refl
named_plain (on_port n t) e = refl
named_plain s e = absurd (false≢true e)

pub plain_frames : (line : ℕ) (x : Plain) (b : Bool)
    → shape_frames line (plain_shape x) b ≡ frame a_statement (Some line) (plain_tree (plain_shape x) ∷ []) ∷ end_frames end_of_plain statements b
plain_frames line (p.Start n) b = refl
plain_frames line x b = refl

-- the ends of parts
pub enter_statements : {p : Parser} {b : Bool} → Enters p b → Leads statements (left p) (enter statements) (part_or_end a_statement b) (left p)
enter_statements e = e.entered statements a_statement refl refl

pub enter_branches : {p : Parser} {b : Bool} → Enters p b → Leads more_branches (left p) (enter more_branches) (part_or_end a_branch b) (left p)
enter_branches e = e.entered more_branches a_branch refl refl

pub end_plain : {p q : Parser} {x : End} → Ends p x q → Leads end_of_plain (left p) (end_frames end_of_plain statements x.has_semicolon) (part_or_end a_statement x.is_open) (left q)
end_plain e = e.ended end_of_plain statements a_statement refl refl refl refl

pub end_reception : {p q : Parser} {x : End} → Ends p x q
    → Leads end_of_reception (left p) (end_frames end_of_reception more_branches x.has_semicolon) (part_or_end a_branch x.is_open) (left q)
end_reception e = e.ended end_of_reception more_branches a_branch refl refl refl refl

pub ruleset shapes = (shape_send, shape_receive, shape_control, shape_all_ports, shape_set_verdict)

pub ruleset plain_parsing = (parsing, named_plain)

pub ruleset statement_parsing =
    (parsing, leading, shape_alt, shape_for, body_nothing, body_block, branch_made, else_made, step_made, plain_frames, enter_statements, enter_branches, end_plain, end_reception)
