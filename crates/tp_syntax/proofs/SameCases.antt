-- The bodies of functions and of test cases are told by their trees.
use Rattle.std.proofs.Common.{◌≡◌, ℕ, Bool, true, false, List, [], ◌∷◌, ◌++◌, Option, Some, None, map, refl, ap, sym, ◌∙◌}
use Rattle.tp_syntax.specs.declared.word.Word.{Word}
use Rattle.tp_syntax.specs.declared.word.Word.TheVariants as w
use Rattle.tp_syntax.specs.Lexeme.{name, word}
use Rattle.tp_tree.specs.declared.message.TypeName.{TypeName}
use Rattle.tp_tree.specs.declared.message.TypeName.TheVariants as type_name
use Rattle.tp_tree.specs.declared.tree.AllDone.{AllDone}
use Rattle.tp_tree.specs.declared.tree.ComponentName.{ComponentName}
use Rattle.tp_tree.specs.declared.tree.ComponentStart.{ComponentStart}
use Rattle.tp_tree.specs.declared.tree.EndComponent.{EndComponent}
use Rattle.tp_tree.specs.declared.tree.EndComponent.TheVariants as e
use Rattle.tp_tree.specs.declared.tree.PairEnd.{PairEnd}
use Rattle.tp_tree.specs.declared.tree.SetupAction.{SetupAction}
use Rattle.tp_tree.specs.declared.tree.SetupAction.TheVariants as s
use Rattle.tp_tree.specs.declared.tree.SetupStatement.{SetupStatement}
use Rattle.tp_tree.specs.declared.tree.Statement.{Statement}
use Rattle.tp_tree.specs.declared.tree.Variable.{Variable}
use Rattle.tp_syntax.specs.declared.case_bodies.CaseBody.{CaseBody}
use Rattle.tp_syntax.specs.declared.cases.Stage.{Stage}
use Rattle.tp_syntax.specs.declared.cases.Stage.TheVariants as stage
use Rattle.tp_syntax.specs.Rule.{Rule, a_statement, after_start, all_ports, end_of_case, end_of_plain, more_arguments, plain, statements}
use Rattle.tp_syntax.specs.Reading.{Tree, leaf, node, Trees, none, more, of, one}
use Rattle.tp_syntax.specs.DefinitionTrees.{behind_variables, function_tree, local_frames, open_behind}
use Rattle.tp_syntax.specs.CaseTrees.{body_tree, done_parts, part, setup_kind, setup_part, start_part, statement_part, variable_part, Part, creates, declares, does, done, pairs, starts, action_frames, arguments_tree, owner_tree, part_frames, parts_frames, place_tree, pair_tree, statement_frames, variable_frames}
use Rattle.tp_syntax.specs.Parsing.{Frame, frame, under, all_frames, closing_tree, end_frames, semicolon_frames}
use Rattle.tp_syntax.specs.OperationTrees.{component_tree, type_tree}
use Rattle.tp_syntax.specs.StatementTrees.{Shape, compounded, on_port, named_tree, shape_frames, step_frames, step_of, statements_tree}
use Rattle.tp_syntax.proofs.SameOperations.{component_back, component_returns}
use Rattle.tp_syntax.proofs.SameStatements.{statements_told, under_append}
use Rattle.tp_syntax.proofs.SameTypes.{row_back, row_more, type_back, type_in, type_returns}

-- the body of a function: its variables, and the tree of its statements
record Body : Type 0 where
  variables : List Variable
  block : Tree

abbrev before : Variable → Body → Body
before v b = record { variables = v ∷ b.variables; block = b.block }

abbrev variable : ℕ → TypeName → List ℕ → Bool → Variable
variable line t n b = record { line = line; type_name = t; name = n; has_semicolon = b }

mutual
  function_back : Tree → Body
  function_back (node r k (more (node q (Some line) (more v (more t (more (leaf (name n)) us)))) (more e ts))) = local_back (variable line (type_back t) n) e
  function_back (node r k (more (leaf s) (more u ts))) = record { variables = []; block = u }
  function_back (node r k (more (node q l us) none)) = record { variables = []; block = node q l us }
  function_back _ = record { variables = []; block = of statements (one closing_tree) }

  local_back : (Bool → Variable) → Tree → Body
  local_back v (node r l (more s (more t ts))) = before (v true) (function_back t)
  local_back v (node r l (more t none)) = before (v false) (function_back t)
  local_back v _ = record { variables = []; block = of statements (one closing_tree) }

local_returns : (line : ℕ) (t : TypeName) (n : List ℕ) (b : Bool) (u : Tree)
    → function_back (under (local_frames (part line (declares t n) b)) u) ≡ before (variable line (type_back (type_tree t)) n b) (function_back u)
unfolding function_back
local_returns line t n true u = refl
local_returns line t n false u = refl

function_returns : (vs : List Variable) (b : Bool) (ss : List Statement)
    → function_back (under (all_frames local_frames (map variable_part vs)) (behind_variables (open_behind b (map variable_part vs)) ss))
    ≡ record { variables = vs; block = statements_tree ss }
unfolding function_back
function_returns [] true ss = refl
function_returns [] false [] = refl
function_returns [] false (x ∷ ss) = refl
function_returns (v ∷ vs) b ss =
    ap function_back (under_append (local_frames (variable_part v)) (all_frames local_frames (map variable_part vs)) _)
    ∙ (local_returns v.line v.type_name v.name v.has_semicolon _
    ∙ (ap (before (variable v.line (type_back (type_tree v.type_name)) v.name v.has_semicolon)) (function_returns vs v.has_semicolon ss)
    ∙ ap (λ (t : TypeName). record { variables = variable v.line t v.name v.has_semicolon ∷ vs; block = statements_tree ss }) (type_returns v.type_name)))

-- what is read back of a function's body
pub function_told : (vs ws : List Variable) (ss rs : List Statement) → function_tree (map variable_part vs) ss ≡ function_tree (map variable_part ws) rs
    → (vs ≡ ws) × (ss ≡ rs)
function_told vs ws ss rs e =
    let same : record { variables = vs; block = statements_tree ss } ≡ record { variables = ws; block = statements_tree rs } =
    sym (function_returns vs true ss) ∙ (ap function_back e ∙ function_returns ws true rs) in
    (ap (λ (b : Body). b.variables) same, statements_told ss rs (ap (λ (b : Body). b.block) same))

abbrev arguments_back : Tree → List ComponentName
arguments_back (node r l ts) = map component_back (row_back ts)
arguments_back (leaf t) = []

arguments_return : (cs : List ComponentName) → arguments_back (arguments_tree cs) ≡ cs
arguments_return [] = refl
arguments_return (c ∷ cs) = row_more component_tree component_back component_returns more_arguments c cs

abbrev owner_of : Word → EndComponent
owner_of w.Mtc = e.Mtc
owner_of w.SelfWord = e.SelfComponent
owner_of _ = e.System

abbrev owner_back : Tree → EndComponent
owner_back (node r l (more (leaf (name n)) ts)) = e.Named n
owner_back (node r l (more (leaf (word x)) ts)) = owner_of x
owner_back _ = e.System

owner_returns : (o : EndComponent) → owner_back (owner_tree o) ≡ o
owner_returns (e.Named n) = refl
owner_returns o = refl

abbrev place_back : Tree → PairEnd
place_back (node r l (more o (more c (more (leaf (name n)) ts)))) = record { component = owner_back o; port = n }
place_back _ = record { component = e.System; port = [] }

place_returns : (p : PairEnd) → place_back (place_tree p) ≡ p
place_returns p = ap (λ (o : EndComponent). record { component = o; port = p.port }) (owner_returns p.component)

abbrev pair_of : Word → PairEnd → PairEnd → SetupAction
pair_of w.Map a b = s.Map a b
pair_of _ a b = s.Connect a b

abbrev pair_back : Word → Tree → SetupAction
pair_back x (node r l (more o (more a (more c (more b ts))))) = pair_of x (place_back a) (place_back b)
pair_back x _ = s.Connect (record { component = e.System; port = [] }) (record { component = e.System; port = [] })

pair_returns : (x : Word) (a b : PairEnd) → pair_back x (pair_tree a b) ≡ pair_of x a b
pair_returns x a b = ap (λ (p : PairEnd). pair_of x p (place_back (place_tree b))) (place_returns a) ∙ ap (pair_of x a) (place_returns b)

-- the body of a test case, with the tree of its statements
record Case : Type 0 where
  setups : List SetupStatement
  starts : List ComponentStart
  variables : List Variable
  block : Tree
  all_done : Option AllDone

abbrev no_case : Case
no_case = record { setups = []; starts = []; variables = []; block = closing_tree; all_done = None }

abbrev keep_setup : ℕ → SetupAction → Bool → Case → Case
keep_setup line a b c = record c { setups = record { line = line; action = a; has_semicolon = b } ∷ c.setups }

abbrev keep_start : ℕ → List ℕ → List ℕ → List ComponentName → Bool → Case → Case
keep_start line n f cs b c =
    record c { starts = record { line = line; component = n; function = f; arguments = cs; has_semicolon = b } ∷ c.starts }

abbrev keep_variable : ℕ → TypeName → List ℕ → Bool → Case → Case
keep_variable line t n b c = record c { variables = variable line t n b ∷ c.variables }

abbrev keep_frames : List Frame → Case → Case
keep_frames fs c = record c { block = under fs c.block }

abbrev keep_plain : ℕ → Tree → Bool → Case → Case
keep_plain line t b c = keep_frames (frame a_statement (Some line) (of plain (one t) ∷ []) ∷ end_frames end_of_plain statements b) c

abbrev keep_compound : ℕ → Tree → Tree → Case → Case
keep_compound line t m c = keep_frames (frame a_statement (Some line) (t ∷ m ∷ []) ∷ frame statements None [] ∷ []) c

abbrev keep_done : ℕ → Bool → Case → Case
keep_done line b c = record c { all_done = Some (record { line = line; has_semicolon = b }) }

abbrev is_start : Rule → Bool
is_start after_start = true
is_start _ = false

mutual
  case_back : Tree → Case
  case_back (node r (Some line) ts) = part_in line ts
  case_back _ = no_case

  ended : (Bool → Case → Case) → Tree → Case
  ended keep (node r l (more s (more (node q k (more t ts)) us))) = keep true (case_back t)
  ended keep (node r l (more t none)) = keep false (case_back t)
  ended keep _ = no_case

  done_in : ℕ → Tree → Case
  done_in line (node r l (more s (more t us))) = keep_done line true (case_back t)
  done_in line (node r l (more t none)) = keep_done line false (case_back t)
  done_in line _ = no_case

  part_in : ℕ → Trees → Case
  part_in line (more (leaf (word x)) (more (node r l us) none)) = var_in line us
  part_in line (more (leaf (word x)) (more p (more u ts))) = ended (keep_setup line (pair_back x p)) u
  part_in line (more (node r l us) ts) = action_in line us
  part_in line _ = no_case

  var_in : ℕ → Trees → Case
  var_in line (more (leaf (name t)) (more (leaf (name n)) (more (node r l us) ts))) = two_in line t n us
  var_in line (more (node r l us) (more (leaf (name n)) (more u ts))) = ended (keep_variable line (type_in us) n) u
  var_in line _ = no_case

  two_in : ℕ → List ℕ → List ℕ → Trees → Case
  two_in line t n (more a (more (leaf (name c)) (more d (more x (more u ts))))) = ended (keep_setup line (s.Create (record { type_name = t; name = n; created = c }))) u
  two_in line t n (more u none) = ended (keep_variable line (type_name.Named t) n) u
  two_in line t n _ = no_case

  action_in : ℕ → Trees → Case
  action_in line (more (node r l us) none) = unnamed_in line us
  action_in line (more (node r l us) (more u ts)) = ended (keep_plain line (node r l us)) u
  action_in line (more (leaf (name n)) (more d (more (node r l us) ts))) = named_in line n us
  action_in line _ = no_case

  unnamed_in : ℕ → Trees → Case
  unnamed_in line (more t (more m (more (node r l (more u us)) ts))) = keep_compound line t m (case_back u)
  unnamed_in line (more t (more u none)) = ended (keep_plain line t) u
  unnamed_in line (more (node r l (more a (more (node q k us) ts))) none) = all_in line us
  unnamed_in line _ = no_case

  all_in : ℕ → Trees → Case
  all_in line (more p (more d (more (node r l us) (more u ts)))) =
      ended (keep_plain line (of all_ports (more (leaf (word w.All)) (more p (more d (one (node r l us))))))) u
  all_in line (more p (more d (more (leaf x) (more u ts)))) = done_in line u
  all_in line _ = no_case

  named_in : ℕ → List ℕ → Trees → Case
  named_in line n (more t (more (node r l us) ts)) = start_in (is_start r) line n t us
  named_in line n _ = no_case

  start_in : Bool → ℕ → List ℕ → Tree → Trees → Case
  start_in true line n t (more p (more (leaf (name f)) (more q (more cs (more z (more u ts)))))) = ended (keep_start line n f (arguments_back cs)) u
  start_in true line n t (more u none) = ended (keep_plain line (named_tree n t)) u
  start_in false line n t (more a (more (node r l (more u ts)) us)) = keep_plain line (named_tree n t) true (case_back u)
  start_in false line n t (more u none) = keep_plain line (named_tree n t) false (case_back u)
  start_in b line n t _ = no_case

ended_returns : (keep : Bool → Case → Case) (r l : Rule) (b : Bool) (t : Tree) → ended keep (under (end_frames r l b) t) ≡ keep b (case_back t)
unfolding case_back
ended_returns keep r l true t = refl
ended_returns keep r l false t = refl

keep_shape : ℕ → Shape → Bool → Case → Case
keep_shape line x b = keep_frames (shape_frames line x b)

action_kept : (line : ℕ) (x : Shape) (b : Bool) (t : Tree) → part_in line (one (under (action_frames (does x) b) t)) ≡ keep_shape line x b (case_back t)
unfolding case_back keep_shape
action_kept line (compounded u) b t = refl
action_kept line (on_port n u) true t = refl
action_kept line (on_port n u) false t = refl
action_kept line x b t = ended_returns _ _ _ b t

statement_kept : (line : ℕ) (x : Shape) (b : Bool) (t : Tree) → part_in line (one (under (statement_frames (does x) b) t)) ≡ keep_shape line x b (case_back t)
unfolding case_back keep_shape
statement_kept line (compounded u) b t = refl
statement_kept line x b t = ended_returns _ _ _ b t

shape_kept : (s : Stage) (line : ℕ) (x : Shape) (b : Bool) (t : Tree) → case_back (under (part_frames s line (does x) b) t) ≡ keep_shape line x b (case_back t)
unfolding case_back
shape_kept stage.Setups line x b t = action_kept line x b t
shape_kept stage.Starts line x b t = action_kept line x b t
shape_kept stage.Variables line x b t = statement_kept line x b t
shape_kept stage.Statements line x b t = statement_kept line x b t

done_ended : (line : ℕ) (b : Bool) (t : Tree) → done_in line (under (semicolon_frames end_of_case b) t) ≡ keep_done line b (case_back t)
unfolding case_back
done_ended line true t = refl
done_ended line false t = refl

done_kept : (s : Stage) (line : ℕ) (b : Bool) (t : Tree) → case_back (under (part_frames s line done b) t) ≡ keep_done line b (case_back t)
unfolding case_back
done_kept stage.Setups = done_ended
done_kept s = done_ended

-- a variable, or the start of a component, is read back at this stage
abbrev KeepsVariables : Stage → Type 0
KeepsVariables s = (line : ℕ) (t : TypeName) (n : List ℕ) (b : Bool) (u : Tree)
    → case_back (under (part_frames s line (declares t n) b) u) ≡ keep_variable line t n b (case_back u)

abbrev KeepsStarts : Stage → Type 0
KeepsStarts s = (line : ℕ) (n f : List ℕ) (cs : List ComponentName) (b : Bool) (u : Tree)
    → case_back (under (part_frames s line (starts n f cs) b) u) ≡ keep_start line n f cs b (case_back u)

var_kept : KeepsVariables stage.Setups
unfolding case_back
var_kept line (type_name.Named m) n b u = ended_returns _ _ _ b u
var_kept line t n b u = ended_returns _ _ _ b u

local_kept : (line : ℕ) (t : TypeName) (n : List ℕ) (b : Bool) (u : Tree)
    → part_in line (more (leaf (word w.Var)) (one (under (variable_frames (declares t n) b) u))) ≡ keep_variable line t n b (case_back u)
unfolding case_back
local_kept line (type_name.Named m) n b u = ended_returns _ _ _ b u
local_kept line t n b u = ended_returns _ _ _ b u

late_kept : KeepsVariables stage.Starts
unfolding case_back
late_kept = local_kept

latest_kept : KeepsVariables stage.Variables
unfolding case_back
latest_kept = local_kept

start_kept : (line : ℕ) (n f : List ℕ) (cs : List ComponentName) (b : Bool) (u : Tree)
    → part_in line (one (under (action_frames (starts n f cs) b) u)) ≡ keep_start line n f cs b (case_back u)
unfolding case_back
start_kept line n f cs b u = ended_returns _ _ _ b u ∙ ap (λ (ds : List ComponentName). keep_start line n f ds b (case_back u)) (arguments_return cs)

early_start : KeepsStarts stage.Setups
unfolding case_back
early_start = start_kept

later_start : KeepsStarts stage.Starts
unfolding case_back
later_start = start_kept

abbrev rest_tree : Stage → List Part → Tree
rest_tree s ps = under (parts_frames s ps) closing_tree

setup_kept : (line : ℕ) (a : SetupAction) (b : Bool) (ps : List Part)
    → case_back (rest_tree stage.Setups (part line (setup_kind a) b ∷ ps)) ≡ keep_setup line a b (case_back (rest_tree stage.Setups ps))
unfolding case_back
setup_kept line (s.Create c) b ps = ap case_back (under_append (part_frames stage.Setups line (creates c) b) _ _) ∙ ended_returns _ _ _ b _
setup_kept line (s.Connect x z) b ps = ap case_back (under_append (part_frames stage.Setups line (pairs w.Connect x z) b) _ _)
    ∙ (ended_returns _ _ _ b _ ∙ ap (λ (a : SetupAction). keep_setup line a b (case_back (rest_tree stage.Setups ps))) (pair_returns w.Connect x z))
setup_kept line (s.Map x z) b ps = ap case_back (under_append (part_frames stage.Setups line (pairs w.Map x z) b) _ _)
    ∙ (ended_returns _ _ _ b _ ∙ ap (λ (a : SetupAction). keep_setup line a b (case_back (rest_tree stage.Setups ps))) (pair_returns w.Map x z))

abbrev block_of : List Statement → Tree
block_of ss = under (all_frames step_frames (map step_of ss)) closing_tree

abbrev made : List SetupStatement → List ComponentStart → List Variable → List Statement → Option AllDone → Case
made us xs vs ss d = record { setups = us; starts = xs; variables = vs; block = block_of ss; all_done = d }

-- all parts, from those of each kind on
done_returns : (d : Option AllDone) (s : Stage) → case_back (rest_tree s (done_parts d)) ≡ made [] [] [] [] d
unfolding case_back
done_returns None s = refl
done_returns (Some x) s = ap case_back (under_append (part_frames s x.line done x.has_semicolon) [] closing_tree) ∙ done_kept s x.line x.has_semicolon closing_tree

statements_return : (ss : List Statement) (d : Option AllDone) (s : Stage) → case_back (rest_tree s (map statement_part ss ++ done_parts d)) ≡ made [] [] [] ss d
unfolding keep_shape
statements_return [] d s = done_returns d s
statements_return (x ∷ ss) d s = ap case_back (under_append (part_frames s (step_of x).line (does (step_of x).shape) (step_of x).semicolon) _ _)
    ∙ (shape_kept s _ _ _ _ ∙ (ap (keep_shape (step_of x).line (step_of x).shape (step_of x).semicolon) (statements_return ss d stage.Statements)
    ∙ ap (λ (t : Tree). record { setups = []; starts = []; variables = []; block = t; all_done = d })
    (sym (under_append (step_frames (step_of x)) (all_frames step_frames (map step_of ss)) closing_tree))))

variables_return : (s : Stage) → KeepsVariables s → (vs : List Variable) (ss : List Statement) (d : Option AllDone)
    → case_back (rest_tree s (map variable_part vs ++ (map statement_part ss ++ done_parts d))) ≡ made [] [] vs ss d
variables_return s keeps [] ss d = statements_return ss d s
variables_return s keeps (v ∷ vs) ss d = ap case_back (under_append (part_frames s v.line (declares v.type_name v.name) v.has_semicolon) _ _)
    ∙ (keeps _ _ _ _ _ ∙ ap (keep_variable v.line v.type_name v.name v.has_semicolon) (variables_return stage.Variables latest_kept vs ss d))

starts_return : (s : Stage) → KeepsStarts s → KeepsVariables s → (xs : List ComponentStart) (vs : List Variable) (ss : List Statement) (d : Option AllDone)
    → case_back (rest_tree s (map start_part xs ++ (map variable_part vs ++ (map statement_part ss ++ done_parts d)))) ≡ made [] xs vs ss d
starts_return s keeps k [] vs ss d = variables_return s k vs ss d
starts_return s keeps k (x ∷ xs) vs ss d = ap case_back (under_append (part_frames s x.line (starts x.component x.function x.arguments) x.has_semicolon) _ _)
    ∙ (keeps _ _ _ _ _ _ ∙ ap (keep_start x.line x.component x.function x.arguments x.has_semicolon) (starts_return stage.Starts later_start late_kept xs vs ss d))

setups_return : (us : List SetupStatement) (xs : List ComponentStart) (vs : List Variable) (ss : List Statement) (d : Option AllDone)
    → case_back (rest_tree stage.Setups (map setup_part us ++ (map start_part xs ++ (map variable_part vs ++ (map statement_part ss ++ done_parts d))))) ≡ made us xs vs ss d
setups_return [] xs vs ss d = starts_return stage.Setups early_start var_kept xs vs ss d
setups_return (a ∷ us) xs vs ss d =
    setup_kept a.line a.action a.has_semicolon _ ∙ ap (keep_setup a.line a.action a.has_semicolon) (setups_return us xs vs ss d)

abbrev behind_setups : Tree → Tree
behind_setups (node r l (more t ts)) = t
behind_setups t = t

-- two bodies of one tree are the same
pub case_told : (b c : CaseBody) → body_tree b ≡ body_tree c → b ≡ c
case_told b c e =
    let same : made b.setups b.starts b.variables b.statements b.all_done ≡ made c.setups c.starts c.variables c.statements c.all_done =
    sym (setups_return b.setups b.starts b.variables b.statements b.all_done)
    ∙ (ap (λ (t : Tree). case_back (behind_setups t)) e ∙ setups_return c.setups c.starts c.variables c.statements c.all_done) in
    let statements_same : b.statements ≡ c.statements = statements_told b.statements c.statements (ap (λ (x : Case). of statements (one x.block)) same) in
    λ i. record {
      setups = (same i).setups;
      starts = (same i).starts;
      variables = (same i).variables;
      statements = statements_same i;
      all_done = (same i).all_done;
    }
