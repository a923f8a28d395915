-- Statements are told by their trees: what reads a tree back gives the statements.
use Rattle.std.proofs.Common.{◌≡◌, ℕ, Bool, true, false, List, [], ◌∷◌, ◌++◌, map, Option, Some, None, refl, ap, ap₂, sym, ◌∙◌}
use Rattle.tp_syntax.specs.Lexeme.{name, symbol, word}
use Rattle.tp_common.specs.declared.operation.PortOperation.{PortOperation}
use Rattle.tp_common.specs.declared.operation.PortOperation.TheVariants as p
use Rattle.tp_common.specs.declared.operation.ReceiveKind.{ReceiveKind}
use Rattle.tp_common.specs.declared.operation.ReceiveKind.TheVariants as k
use Rattle.tp_tree.specs.declared.tree.Action.{Action}
use Rattle.tp_tree.specs.declared.tree.Action.TheOpen as o
use Rattle.tp_tree.specs.declared.tree.Action.TheFolds.{map-Action, map-BranchBody, fold-roll-BranchBody, fold-roll-Counted, ind-Statement}
use Rattle.tp_tree.specs.declared.tree.Action.TheViews.{roll-Action, roll-BranchBody, roll-Branch, roll-Counted, roll-ElseBranch, roll-Statement}
use Rattle.tp_tree.specs.declared.tree.Branch.{Branch}
use Rattle.tp_tree.specs.declared.tree.BranchBody.{BranchBody}
use Rattle.tp_tree.specs.declared.tree.Counted.{Counted}
use Rattle.tp_tree.specs.declared.tree.ElseBranch.{ElseBranch}
use Rattle.tp_tree.specs.declared.tree.Receive.{Receive}
use Rattle.tp_tree.specs.declared.tree.Statement.{Statement}
use Rattle.tp_tree.specs.declared.tree.Turns.{Turns}
use Rattle.tp_syntax.specs.Rule.{a_statement, end_of_plain, other_operation, statements}
use Rattle.tp_syntax.specs.Reading.{Tree, leaf, node, Trees, none, more, of, one}
use Rattle.tp_syntax.specs.Parsing.{Frame, frame, under, with_last, all_frames, end_frames, closing_tree, may_end_tree}
use Rattle.tp_syntax.specs.OperationTrees.{kind_tree}
use Rattle.tp_syntax.specs.StatementTrees.{after_branches, BranchView, ElseView, Shape, Step, action_step, body_of, body_step, branch_frames, branch_of, branch_step, branches_tree, block_tree, compounded, control_shape, counted_step, counted_tree, else_of, else_step, plain_tree, shape_frames, shape_of, statement_step, statements_tree, step_frames, step_of}
use Rattle.tp_syntax.proofs.StatementViews.{action_at, branch_made, else_made, step_made}
use Rattle.tp_syntax.proofs.SameValues.{firsts}
use Rattle.tp_syntax.proofs.SameOperations.{sent_back, sent_returns, receivers_back, receivers_return, receive_back, receive_returns, operation_of_word, control_back, control_returns, verdict_back, verdict_returns, turns_back, turns_return}

abbrev statement_of : ℕ → Action → Bool → Statement
statement_of l x b = roll-Statement (record { line = l; action = x; has_semicolon = b })

abbrev branch_at : ℕ → Receive → BranchBody → Bool → Branch
branch_at l x y b = roll-Branch (record { line = l; receive = x; body = y; has_semicolon = b })

abbrev else_at : ℕ → List Statement → Bool → ElseBranch
else_at l ss b = roll-ElseBranch (record { line = l; block = ss; has_semicolon = b })

abbrev for_of : Turns → List Statement → Action
for_of t ss = roll-Action (o.For (roll-Counted (record { turns = t; block = ss })))

abbrev control_of : List ℕ → PortOperation → Action
control_of n x = roll-Action (o.Control (record { port = n; operation = x }))

-- the branches of an `alt`
record Alternatives : Type 0 where
  branches : List Branch
  otherwise : Option ElseBranch

abbrev no_alternatives : Alternatives
no_alternatives = record { branches = []; otherwise = None }

abbrev before : Branch → Alternatives → Alternatives
before b x = record { branches = b ∷ x.branches; otherwise = x.otherwise }

abbrev alt_of : Alternatives → Action
alt_of x = roll-Action (o.Alt x.branches x.otherwise)

-- an operation of this port; a statement without a block
abbrev operation_back : List ℕ → Tree → Action
operation_back n (node q l (more (leaf (word x)) none)) = control_of n (operation_of_word x)
operation_back n (node q l (more t none)) = roll-Action (o.Receive (receive_back n t))
operation_back n (node q l (more a (more b (more s (more d (more r ts)))))) =
    roll-Action (o.Send (record { port = n; sent = sent_back s; to = receivers_back r }))
operation_back n _ = control_of n p.Start

abbrev plain_in : Trees → Action
plain_in (more (leaf (name n)) (more d (more (node q l (more t us)) ts))) = operation_back n t
plain_in (more a (more (leaf (symbol s)) (more t ts))) = roll-Action (o.SetVerdict (verdict_back t))
plain_in (more a (more (leaf (word x)) (more d (more t ts)))) = roll-Action (o.AllPorts (control_back t))
plain_in _ = roll-Action (o.AllPorts p.Start)

abbrev plain_back : Tree → Action
plain_back (node q l (more (node r m us) ts)) = plain_in us
plain_back _ = roll-Action (o.AllPorts p.Start)

-- whether there is a `;`: where nothing else follows in the node, and where the rest does
abbrev pub may_end_back : Tree → Bool
may_end_back (node q l none) = false
may_end_back _ = true

abbrev end_back : Tree → Bool
end_back (node q l (more a (more t ts))) = true
end_back _ = false

abbrev branch_end_back : Tree → Bool
branch_end_back (node q l (more a (more b (more t ts)))) = may_end_back t
branch_end_back (node q l (more t none)) = end_back t
branch_end_back _ = false

mutual
  pub statements_back : Tree → List Statement
  statements_back (node q l (more t none)) = parts_back t
  statements_back (node q l (more a (more t ts))) = statements_back t
  statements_back _ = []

  parts_back : Tree → List Statement
  parts_back (node q (Some l) (more t (more e none))) = statement_of l (plain_back t) (end_back e) ∷ statements_back e
  parts_back (node q (Some l) (more t (more e (more u ts)))) = statement_of l (compound_back t) (may_end_back e) ∷ statements_back u
  parts_back _ = []

  compound_back : Tree → Action
  compound_back (node q l (more a (more b (more t none)))) = alt_of (alternatives_back t)
  compound_back (node q l (more a (more t (more b (more u ts))))) = for_of (turns_back t) (statements_back u)
  compound_back _ = roll-Action (o.AllPorts p.Start)

  alternatives_back : Tree → Alternatives
  alternatives_back (node q (Some l) (more a (more (node r m (more (node s k ts) us)) vs))) = alternatives_in l ts
  alternatives_back _ = no_alternatives

  alternatives_in : ℕ → Trees → Alternatives
  alternatives_in l (more a (more (leaf (name n)) (more d (more t (more u none))))) =
      before (branch_at l (receive_back n t) (body_back u) (branch_end_back u)) (behind u)
  alternatives_in l (more a (more b (more d (more t (more e (more f ts)))))) =
      record { branches = []; otherwise = Some (else_at l (statements_back t) (may_end_back e)) }
  alternatives_in l _ = no_alternatives

  body_back : Tree → BranchBody
  body_back (node q l (more a (more t (more e ts)))) = roll-BranchBody (o.Block (statements_back t))
  body_back _ = roll-BranchBody o.Nothing

  behind : Tree → Alternatives
  behind (node q l (more t none)) = behind_end t
  behind (node q l (more a (more b (more e (more t ts))))) = behind_end t
  behind _ = no_alternatives

  behind_end : Tree → Alternatives
  behind_end (node q l (more t none)) = alternatives_back t
  behind_end (node q l (more a (more t ts))) = behind_end t
  behind_end _ = no_alternatives

-- from the views
abbrev shape_back : Shape → Action
shape_back (compounded t) = compound_back t
shape_back x = plain_back (plain_tree x)

abbrev step_back : Step → Statement
step_back x = statement_of x.line (shape_back x.shape) x.semicolon

abbrev block_of : Option Tree → BranchBody
block_of None = roll-BranchBody o.Nothing
block_of (Some t) = roll-BranchBody (o.Block (statements_back t))

abbrev branch_back : BranchView → Branch
branch_back x = branch_at x.line (receive_back x.port x.operation) (block_of x.body) x.semicolon

abbrev else_back : ElseView → ElseBranch
else_back x = else_at x.line (statements_back x.block) x.semicolon

abbrev otherwise_back : Option ElseView → Option ElseBranch
otherwise_back None = None
otherwise_back (Some x) = Some (else_back x)

-- a list of parts, each of which is its frames
pub under_append : (fs gs : List Frame) (t : Tree) → under (fs ++ gs) t ≡ under fs (under gs t)
under_append [] gs t = refl
under_append (frame r l ts ∷ fs) gs t = ap (λ (u : Tree). node r l (with_last ts u)) (under_append fs gs t)

plain_part : (l : ℕ) (x : Tree) (b : Bool) (t : Tree)
    → parts_back (under (frame a_statement (Some l) (x ∷ []) ∷ end_frames end_of_plain statements b) t)
    ≡ statement_of l (plain_back x) b ∷ parts_back t
unfolding statements_back
plain_part l x true t = refl
plain_part l x false t = refl

part_back : (l : ℕ) (x : Shape) (b : Bool) (t : Tree) → parts_back (under (shape_frames l x b) t) ≡ statement_of l (shape_back x) b ∷ parts_back t
unfolding statements_back
part_back l (compounded u) true t = refl
part_back l (compounded u) false t = refl
part_back l x b t = plain_part l (plain_tree x) b t

steps_back : (xs : List Step) → parts_back (under (all_frames step_frames xs) closing_tree) ≡ map step_back xs
unfolding statements_back
steps_back [] = refl
steps_back (x ∷ xs) =
    ap parts_back (under_append (step_frames x) (all_frames step_frames xs) closing_tree)
    ∙ (part_back x.line x.shape x.semicolon (under (all_frames step_frames xs) closing_tree) ∙ rw (steps_back xs) refl)

block_back : (xs : List Step) → statements_back (block_tree xs) ≡ map step_back xs
unfolding statements_back
block_back xs = steps_back xs

branch_part : (l : ℕ) (n : List ℕ) (x : Tree) (body : Option Tree) (b : Bool) (t : Tree)
    → alternatives_back (under (branch_frames (record { line = l; port = n; operation = x; body = body; semicolon = b })) t)
    ≡ before (branch_at l (receive_back n x) (block_of body) b) (alternatives_back t)
unfolding statements_back
branch_part l n x None true t = refl
branch_part l n x None false t = refl
branch_part l n x (Some u) true t = refl
branch_part l n x (Some u) false t = refl

pub may_end_returns : (b : Bool) → may_end_back (may_end_tree b) ≡ b
may_end_returns true = refl
may_end_returns false = refl

branches_back : (xs : List BranchView) (e : Option ElseView)
    → alternatives_back (branches_tree xs e) ≡ record { branches = map branch_back xs; otherwise = otherwise_back e }
unfolding statements_back
branches_back [] None = refl
branches_back [] (Some e) = rw may_end_returns refl
branches_back (x ∷ xs) e =
    ap alternatives_back (under_append (branch_frames x) (all_frames branch_frames xs) (after_branches e))
    ∙ (branch_part x.line x.port x.operation x.body x.semicolon (branches_tree xs e) ∙ ap (before (branch_back x)) (branches_back xs e))

-- the induction
abbrev Actions : Type 0
Actions = (x : Action) × (shape_back (shape_of x) ≡ x)

abbrev Bodies : Type 0
Bodies = (x : BranchBody) × (block_of (body_of x) ≡ x)

abbrev Branches : Type 0
Branches = (x : Branch) × (branch_back (branch_of x) ≡ x)

abbrev Counts : Type 0
Counts = (x : Counted) × (compound_back (counted_tree x) ≡ roll-Action (o.For x))

abbrev Elses : Type 0
Elses = (x : ElseBranch) × (else_back (else_of x) ≡ x)

abbrev Statements : Type 0
Statements = (x : Statement) × (step_back (step_of x) ≡ x)

-- what returns each returns the list
all_return : {A B : Type 0} (f : A → B) (g : B → A) (xs : List ((x : A) × (g (f x) ≡ x))) → map g (map f (firsts xs)) ≡ firsts xs
all_return f g [] = refl
all_return f g (x ∷ xs) = ap₂ ◌∷◌ x.1 (all_return f g xs)

block_returns : (xs : List Statements) → statements_back (block_tree (map step_of (firsts xs))) ≡ firsts xs
block_returns xs = block_back (map step_of (firsts xs)) ∙ all_return step_of step_back xs

receive_action : (n : List ℕ) (k : ReceiveKind) (t : Tree)
    → operation_back n (of other_operation (one (kind_tree k t))) ≡ roll-Action (o.Receive (receive_back n (kind_tree k t)))
receive_action n k.Receive t = refl
receive_action n x t = refl

control_action : (n : List ℕ) (x : PortOperation) → shape_back (control_shape n x) ≡ control_of n x
control_action n p.Start = refl
control_action n x = refl

abbrev Layer : Type 0
Layer = o.Action-F Action BranchBody Branch Counted ElseBranch Statement

abbrev plain_layer : o.Action-F Actions Bodies Branches Counts Elses Statements → Layer
plain_layer y =
    map-Action Actions Bodies Branches Counts Elses Statements Action BranchBody Branch Counted ElseBranch Statement
    (λ e. e.0) (λ e. e.0) (λ e. e.0) (λ e. e.0) (λ e. e.0) (λ e. e.0) y

action_returns : (y : o.Action-F Actions Bodies Branches Counts Elses Statements)
    → shape_back (shape_of (roll-Action (plain_layer y))) ≡ roll-Action (plain_layer y)
unfolding statements_back
action_returns (o.Send x) = rw (action_at, sent_returns, receivers_return) refl
action_returns (o.Receive x) = rw (action_at, receive_action, receive_returns) refl
action_returns (o.Control x) = rw (action_at, control_action) refl
action_returns (o.AllPorts x) = rw (action_at, control_returns) refl
action_returns (o.SetVerdict x) = rw (action_at, verdict_returns) refl
action_returns (o.Alt bs None) = rw (action_at, branches_back, all_return branch_of branch_back bs) refl
action_returns (o.Alt bs (Some e)) = rw (action_at, branches_back, all_return branch_of branch_back bs, e.1) refl
action_returns (o.For c) = rw (action_at, c.1) refl

body_at : (z : o.BranchBody-F Action BranchBody Branch Counted ElseBranch Statement) → body_of (roll-BranchBody z)
    ≡ body_step (map-BranchBody Action BranchBody Branch Counted ElseBranch Statement Shape (Option Tree) BranchView Tree ElseView Step
    shape_of body_of branch_of counted_tree else_of step_of z)
unfolding shape_of body_of branch_of counted_tree else_of step_of
body_at z = fold-roll-BranchBody Shape (Option Tree) BranchView Tree ElseView Step action_step body_step branch_step counted_step else_step statement_step z

body_returns : (y : o.BranchBody-F Actions Bodies Branches Counts Elses Statements) (x : o.BranchBody-F Action BranchBody Branch Counted ElseBranch Statement)
    → map-BranchBody Actions Bodies Branches Counts Elses Statements Action BranchBody Branch Counted ElseBranch Statement
    (λ e. e.0) (λ e. e.0) (λ e. e.0) (λ e. e.0) (λ e. e.0) (λ e. e.0) y ≡ x → block_of (body_of (roll-BranchBody x)) ≡ roll-BranchBody x
body_returns o.Nothing x is = rw (← is, body_at) refl
body_returns (o.Block ss) x is = rw (← is, body_at, block_returns ss) refl

counted_at : (t : Turns) (ss : List Statement)
    → counted_tree (roll-Counted (record { turns = t; block = ss })) ≡ counted_step (record { turns = t; block = map step_of ss })
unfolding counted_tree step_of
counted_at t ss =
    fold-roll-Counted Shape (Option Tree) BranchView Tree ElseView Step action_step body_step branch_step counted_step else_step statement_step
    (record { turns = t; block = ss })

counted_returns : (t : Turns) (ss : List Statements)
    → compound_back (counted_tree (roll-Counted (record { turns = t; block = firsts ss }))) ≡ for_of t (firsts ss)
unfolding statements_back
counted_returns t ss = rw (counted_at, turns_return t, block_returns ss) refl

statement_returns : (x : Statement) → step_back (step_of x) ≡ x
statement_returns = ind-Statement (λ x. shape_back (shape_of x) ≡ x) (λ x. block_of (body_of x) ≡ x) (λ x. branch_back (branch_of x) ≡ x)
    (λ x. compound_back (counted_tree x) ≡ roll-Action (o.For x)) (λ x. else_back (else_of x) ≡ x) (λ x. step_back (step_of x) ≡ x)
    (λ x y is. rw (← is) (action_returns y)) (λ x y is. body_returns y x is)
    (λ x y is. rw (← is, branch_made, receive_returns y.receive, y.body.1) refl)
    (λ x y is. rw (← is) (counted_returns y.turns y.block))
    (λ x y is. rw (← is, else_made, block_returns y.block) refl)
    (λ x y is. rw (← is, step_made, y.action.1) refl)

steps_return : (xs : List Statement) → map step_back (map step_of xs) ≡ xs
steps_return [] = refl
steps_return (x ∷ xs) = ap₂ ◌∷◌ (statement_returns x) (steps_return xs)

pub statements_return : (xs : List Statement) → statements_back (statements_tree xs) ≡ xs
statements_return xs = block_back (map step_of xs) ∙ steps_return xs

-- two lists of statements of one tree are the same
pub statements_told : (xs ys : List Statement) → statements_tree xs ≡ statements_tree ys → xs ≡ ys
statements_told xs ys e = sym (statements_return xs) ∙ (ap statements_back e ∙ statements_return ys)
