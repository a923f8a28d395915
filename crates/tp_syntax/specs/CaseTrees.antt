-- The trees of a test case's body.
use Rattle.std.specs.Prelude.{ℕ, Bool, true, false, cond, List, [], ◌∷◌, ◌++◌, map, Some, None, ◌≡◌, ◌<◌, Option}
use Rattle.std.specs.Prelude.{Result}
use Rattle.tp_syntax.specs.declared.word.Word.{Word}
use Rattle.tp_syntax.specs.declared.word.Word.TheVariants as w
use Rattle.tp_syntax.specs.declared.token.Symbol.TheVariants.{Assign, Colon, Comma, Dot, LeftParen, RightParen}
use Rattle.tp_syntax.specs.Lexeme.{name, word}
use Rattle.tp_tree.specs.declared.message.TypeName.{TypeName}
use Rattle.tp_tree.specs.declared.message.TypeName.TheVariants as type_name
use Rattle.tp_tree.specs.declared.tree.ComponentName.{ComponentName}
use Rattle.tp_tree.specs.declared.tree.Creation.{Creation}
use Rattle.tp_tree.specs.declared.tree.EndComponent.{EndComponent}
use Rattle.tp_tree.specs.declared.tree.EndComponent.TheVariants as e
use Rattle.tp_tree.specs.declared.tree.PairEnd.{PairEnd}
use Rattle.tp_syntax.specs.Rule.{Rule, a_pair, a_place, a_place_owner, a_setup, a_start, after_case_all}
use Rattle.tp_syntax.specs.Rule.{after_case_name, after_case_var, after_start, after_statements, after_two_names}
use Rattle.tp_syntax.specs.Rule.{after_variables, arguments, case_action, case_all, case_setups, case_starts}
use Rattle.tp_syntax.specs.Rule.{case_statement, case_statements, case_unnamed, case_variables, end_of_case}
use Rattle.tp_syntax.specs.Rule.{end_of_case_statement, end_of_case_variable, end_of_setup, end_of_start}
use Rattle.tp_syntax.specs.Rule.{more_arguments, variable_parts}
use Rattle.tp_syntax.specs.Reading.{Tree, leaf, of, tree, one, sym, chain}
use Rattle.tp_syntax.specs.declared.cases.Stage.{Stage}
use Rattle.tp_syntax.specs.declared.cases.Stage.TheVariants as stage
use Rattle.tp_syntax.specs.Parsing.{Frame, frame, under, enter, end_frames, semicolon_frames, closing_tree}
use Rattle.tp_syntax.specs.Parsing.{may_end_tree, Goes, part_or_end}
use Rattle.tp_syntax.specs.OperationTrees.{component_tree, control_tree, predefined_tree, set_verdict_tree, type_tree}
use Rattle.tp_syntax.specs.StatementTrees.{Shape, compounded, verdict_set, on_all_ports, port_started, on_port}
use Rattle.tp_syntax.specs.StatementTrees.{named_tree, plain_shape, shape_of, step_of}
use Rattle.tp_tree.specs.declared.tree.ComponentStart.{ComponentStart}
use Rattle.tp_tree.specs.declared.tree.SetupAction.{SetupAction}
use Rattle.tp_tree.specs.declared.tree.SetupAction.TheVariants as setup
use Rattle.tp_tree.specs.declared.tree.SetupStatement.{SetupStatement}
use Rattle.tp_tree.specs.declared.tree.Statement.{Statement}
use Rattle.tp_tree.specs.declared.tree.Variable.{Variable}
use Rattle.tp_syntax.specs.declared.cases.CaseAction.{CaseAction}
use Rattle.tp_syntax.specs.declared.cases.CasePart.{CasePart}
use Rattle.tp_syntax.specs.declared.cursor.Parser.{Parser}
use Rattle.tp_syntax.specs.declared.stuck.Stuck.{Stuck}
use Rattle.tp_syntax.specs.declared.cases.CaseAction.TheVariants as action
use Rattle.tp_tree.specs.declared.tree.AllDone.{AllDone}
use Rattle.tp_syntax.specs.declared.case_bodies.CaseBody.{CaseBody}

-- what a part does: a `connect` or a `map`, by its word; a creation; the start of a component, with its function and
-- arguments; a variable; a statement; or `all component.done`
pub data Kind : Type 0 where
  pairs : Word → PairEnd → PairEnd → Kind
  creates : Creation → Kind
  starts : List ℕ → List ℕ → List ComponentName → Kind
  declares : TypeName → List ℕ → Kind
  does : Shape → Kind
  done : Kind

-- a part: its line, what it does, and whether it has a `;`
pub record Part : Type 0 where
  pub line : ℕ
  pub kind : Kind
  pub semicolon : Bool

abbrev pub part_rule : Stage → Rule
part_rule stage.Setups = a_setup
part_rule stage.Starts = a_start
part_rule stage.Variables = after_variables
part_rule stage.Statements = after_statements

abbrev pub stage_of : Kind → Stage
stage_of (pairs x a b) = stage.Setups
stage_of (creates c) = stage.Setups
stage_of (starts n f args) = stage.Starts
stage_of (declares t n) = stage.Variables
stage_of (does s) = stage.Statements
stage_of done = stage.Statements

abbrev pub owner_tree : EndComponent → Tree
owner_tree e.Mtc = of a_place_owner (one (leaf (word w.Mtc)))
owner_tree e.SelfComponent = of a_place_owner (one (leaf (word w.SelfWord)))
owner_tree e.System = of a_place_owner (one (leaf (word w.System)))
owner_tree (e.Named n) = of a_place_owner (one (leaf (name n)))

abbrev pub place_tree : PairEnd → Tree
place_tree p =
    tree a_place (owner_tree p.component ∷ sym Colon ∷ leaf (name p.port) ∷ [])

abbrev pub pair_tree : PairEnd → PairEnd → Tree
pair_tree a b =
    tree a_pair (sym LeftParen ∷ place_tree a ∷ sym Comma ∷ place_tree b ∷ sym RightParen ∷ [])

abbrev pub arguments_tree : List ComponentName → Tree
arguments_tree [] = of arguments (one (sym RightParen))
arguments_tree (c ∷ cs) =
    tree arguments
    (component_tree c ∷ chain more_arguments (map component_tree cs) ∷ sym RightParen ∷ [])

-- whether the part begins with `all`, is one of the rule `case_unnamed`, or begins with `var`
abbrev pub is_all : Kind → Bool
is_all (does (on_all_ports o)) = true
is_all done = true
is_all _ = false

abbrev pub is_unnamed : Kind → Bool
is_unnamed (does (compounded t)) = true
is_unnamed (does (verdict_set v)) = true
is_unnamed k = is_all k

abbrev pub is_var : Kind → Bool
is_var (creates c) = true
is_var (declares t n) = true
is_var _ = false

-- whether no part may follow it
abbrev pub is_over : Kind → Bool
is_over done = true
is_over _ = false

-- whether the part is one of the rules `case_statement` and `case_action`
abbrev pub is_statement : Kind → Bool
is_statement (does s) = true
is_statement done = true
is_statement _ = false

abbrev pub is_action : Kind → Bool
is_action (starts n f args) = true
is_action k = is_statement k

abbrev pub end_of_statement : Bool → List Frame
end_of_statement b = end_frames end_of_case_statement case_statements b

abbrev pub end_of_declaration : Bool → List Frame
end_of_declaration b = end_frames end_of_case_variable case_variables b

-- the frames of a part that begins with `all`
abbrev pub case_all_frames : Kind → Bool → List Frame
case_all_frames (does (on_all_ports o)) b =
    frame case_all None (leaf (word w.All) ∷ [])
    ∷ frame after_case_all None (leaf (word w.Port) ∷ sym Dot ∷ control_tree o ∷ [])
    ∷ end_of_statement b
case_all_frames done b =
    frame case_all None (leaf (word w.All) ∷ [])
    ∷ frame after_case_all None (leaf (word w.Component) ∷ sym Dot ∷ leaf (word w.Done) ∷ [])
    ∷ semicolon_frames end_of_case b
case_all_frames _ b = []

abbrev pub unnamed_frames : Kind → Bool → List Frame
unnamed_frames (does (compounded t)) b =
    frame case_unnamed None (t ∷ may_end_tree b ∷ []) ∷ enter case_statements
unnamed_frames (does (verdict_set v)) b =
    frame case_unnamed None (set_verdict_tree v ∷ []) ∷ end_of_statement b
unnamed_frames k b = enter case_unnamed ++ case_all_frames k b

-- the frames of a statement that begins with the name of a port, after all starts
abbrev pub named_frames : Kind → Bool → List Frame
named_frames (does (port_started n)) b =
    frame case_statement None (named_tree n (leaf (word w.Start)) ∷ []) ∷ end_of_statement b
named_frames (does (on_port n t)) b =
    frame case_statement None (named_tree n t ∷ []) ∷ end_of_statement b
named_frames _ b = []

abbrev pub statement_frames : Kind → Bool → List Frame
statement_frames k b =
    cond (is_unnamed k) (enter case_statement ++ unnamed_frames k b) (named_frames k b)

-- the frames of the start of a component, or of a statement that begins with the name of a port, if a start is still
-- allowed
abbrev pub after_name_frames : Kind → Bool → List Frame
after_name_frames (starts n f args) b =
    frame after_case_name None (leaf (word w.Start) ∷ [])
    ∷ frame after_start None
    (sym LeftParen ∷ leaf (name f) ∷ sym LeftParen ∷ arguments_tree args ∷ sym RightParen ∷ [])
    ∷ end_frames end_of_start case_starts b
after_name_frames (does (port_started n)) b =
    frame after_case_name None (leaf (word w.Start) ∷ []) ∷ frame after_start None []
    ∷ end_of_statement b
after_name_frames (does (on_port n t)) b = frame after_case_name None (t ∷ []) ∷ end_of_statement b
after_name_frames _ b = []

abbrev pub name_of : Kind → List ℕ
name_of (starts n f args) = n
name_of (does (port_started n)) = n
name_of (does (on_port n t)) = n
name_of _ = []

abbrev pub action_frames : Kind → Bool → List Frame
action_frames k b =
    cond (is_unnamed k) (enter case_action ++ unnamed_frames k b)
    (frame case_action None (leaf (name (name_of k)) ∷ sym Dot ∷ []) ∷ after_name_frames k b)

-- the frames after `var`, if a creation is still allowed
abbrev pub after_var_frames : Kind → Bool → List Frame
after_var_frames (creates c) b =
    frame after_case_var None (leaf (name c.type_name) ∷ leaf (name c.name) ∷ [])
    ∷ frame after_two_names None
    (sym Assign ∷ leaf (name c.created) ∷ sym Dot ∷ leaf (word w.Create) ∷ [])
    ∷ end_frames end_of_setup case_setups b
after_var_frames (declares (type_name.Named t) n) b =
    frame after_case_var None (leaf (name t) ∷ leaf (name n) ∷ []) ∷ frame after_two_names None []
    ∷ end_of_declaration b
after_var_frames (declares t n) b =
    frame after_case_var None (predefined_tree t ∷ leaf (name n) ∷ []) ∷ end_of_declaration b
after_var_frames _ b = []

abbrev pub pair_frames : ℕ → Kind → Bool → List Frame
pair_frames line (pairs x a c) b =
    frame a_setup (Some line) (leaf (word x) ∷ pair_tree a c ∷ [])
    ∷ end_frames end_of_setup case_setups b
pair_frames line _ b = []

-- the frames after `var`, if only a variable is allowed
abbrev pub variable_frames : Kind → Bool → List Frame
variable_frames (declares t n) b =
    frame variable_parts None (type_tree t ∷ leaf (name n) ∷ []) ∷ end_of_declaration b
variable_frames _ b = []

abbrev pub with_var : Rule → ℕ → List Frame → List Frame
with_var r line fs = frame r (Some line) (leaf (word w.Var) ∷ []) ∷ fs

abbrev pub part_frames : Stage → ℕ → Kind → Bool → List Frame
part_frames stage.Setups line k b =
    cond (is_var k) (with_var a_setup line (after_var_frames k b))
    (cond (is_action k) (frame a_setup (Some line) [] ∷ action_frames k b) (pair_frames line k b))
part_frames stage.Starts line k b =
    cond (is_var k) (with_var a_start line (variable_frames k b))
    (frame a_start (Some line) [] ∷ action_frames k b)
part_frames stage.Variables line k b =
    cond (is_var k) (with_var after_variables line (variable_frames k b))
    (frame after_variables (Some line) [] ∷ statement_frames k b)
part_frames stage.Statements line k b = frame after_statements (Some line) [] ∷ statement_frames k b

abbrev pub parts_frames : Stage → List Part → List Frame
parts_frames s [] = []
parts_frames s (p ∷ ps) =
    part_frames s p.line p.kind p.semicolon ++ parts_frames (stage_of p.kind) ps

-- parts, and the `}` after them
abbrev pub case_tree : List Part → Tree
case_tree ps = under (enter case_setups ++ parts_frames stage.Setups ps) closing_tree

abbrev pub kind_of : CaseAction → Kind
kind_of (action.Connect a b) = pairs w.Connect a b
kind_of (action.Map a b) = pairs w.Map a b
kind_of (action.Create x) = creates x
kind_of (action.Start n f args) = starts n f args
kind_of (action.Variable t n) = declares t n
kind_of (action.Plain p) = does (plain_shape p)
kind_of (action.Compound a) = does (shape_of a)
kind_of action.Done = done

abbrev pub part : ℕ → Kind → Bool → Part
part line k b = record { line = line; kind = k; semicolon = b }

abbrev pub setup_kind : SetupAction → Kind
setup_kind (setup.Connect a b) = pairs w.Connect a b
setup_kind (setup.Map a b) = pairs w.Map a b
setup_kind (setup.Create x) = creates x

abbrev pub setup_part : SetupStatement → Part
setup_part x = record { line = x.line; kind = setup_kind x.action; semicolon = x.has_semicolon }

abbrev pub start_part : ComponentStart → Part
start_part x =
    record {
      line = x.line;
      kind = starts x.component x.function x.arguments;
      semicolon = x.has_semicolon;
    }

abbrev pub variable_part : Variable → Part
variable_part x =
    record { line = x.line; kind = declares x.type_name x.name; semicolon = x.has_semicolon }

abbrev pub statement_part : Statement → Part
statement_part x =
    record {
      line = (step_of x).line;
      kind = does (step_of x).shape;
      semicolon = (step_of x).semicolon;
    }

abbrev pub done_parts : Option AllDone → List Part
done_parts None = []
done_parts (Some x) = record { line = x.line; kind = done; semicolon = x.has_semicolon } ∷ []

-- the parts of a body, in their order
abbrev pub parts_of : CaseBody → List Part
parts_of b =
    map setup_part b.setups
    ++ (map start_part b.starts
    ++ (map variable_part b.variables ++ (map statement_part b.statements
    ++ done_parts b.all_done)))

abbrev pub body_tree : CaseBody → Tree
body_tree b = case_tree (parts_of b)

-- the rank of a part: parts of a lower rank come before it
abbrev pub stage_rank : Stage → ℕ
stage_rank stage.Setups = 0
stage_rank stage.Starts = 1
stage_rank stage.Variables = 2
stage_rank stage.Statements = 3

abbrev pub rank_of : Kind → ℕ
rank_of (pairs x a b) = 0
rank_of (creates x) = 0
rank_of (starts n f args) = 1
rank_of (declares t n) = 2
rank_of (does x) = 3
rank_of done = 4

-- the body has no parts above this rank
pub record IsUpTo (n : ℕ) (b : CaseBody) : Type 0 where
  pub no_starts : n < 1 → b.starts ≡ []
  pub no_variables : n < 2 → b.variables ≡ []
  pub no_statements : n < 3 → b.statements ≡ []
  pub not_done : n < 4 → b.all_done ≡ None

-- a part is read after this rule, up to the rule of the part that may follow it
abbrev pub GoesCase : Rule → (Kind → Bool → List Frame) → Parser → Result CasePart Stuck
    → Parser → Type 0
GoesCase r frames p result q =
    Goes r (λ x. frames (kind_of x.action) x.end.has_semicolon)
    (λ x. part_or_end (part_rule (stage_of (kind_of x.action))) x.end.is_open) p result q
