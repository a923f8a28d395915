-- A module is told by its tree, and so a text is read as one module.
use Rattle.std.proofs.Common.{◌≡◌, ℕ, zero, suc, Bool, true, false, List, [], ◌∷◌, Option, Some, None, refl, ap, sym, subst, ◌∙◌}
use Rattle.tp_syntax.specs.Lexeme.{name, PlacedLexeme}
use Rattle.tp_tree.specs.declared.tree.Defined.{Defined}
use Rattle.tp_tree.specs.declared.tree.Defined.TheVariants as d
use Rattle.tp_tree.specs.declared.tree.Definition.{Definition}
use Rattle.tp_tree.specs.declared.tree.Function.{Function}
use Rattle.tp_tree.specs.declared.tree.Module.{Module}
use Rattle.tp_tree.specs.declared.tree.TestCase.{TestCase}
use Rattle.tp_syntax.specs.Rule.{Rule, definitions, end_of_list}
use Rattle.tp_syntax.specs.Reading.{Tree, leaf, node, Trees, none, more}
use Rattle.tp_syntax.specs.ReadTexts.{IsReadAs}
use Rattle.tp_syntax.specs.DefinitionTrees.{body_of, system_tree, test_case_trees, defined_frames, definition_frames, frames_of_all, function_trees, module_tree}
use Rattle.tp_syntax.specs.Parsing.{under, closing_tree, end_frames}
use Rattle.tp_syntax.specs.OperationTrees.{type_tree}
use Rattle.tp_syntax.specs.Refusal.{IsText}
use Rattle.tp_syntax.specs.SettledTokens.{settled}
use Rattle.tp_syntax.proofs.SameCases.{case_told, function_told}
use Rattle.tp_syntax.proofs.SameStatements.{may_end_back, may_end_returns, under_append}
use Rattle.tp_syntax.proofs.SameTypes.{fields_return, fields_back, parameters_back, parameters_return, ports_back, ports_return, told, type_back, type_returns, ways_back, ways_return}
use Rattle.tp_syntax.proofs.WholeTexts.{one_text_tree}
use Rattle.tp_syntax.proofs.UniqueTokens.{tokens_are_unique}

-- the trees below a node, the one at a place among them, and the last
abbrev first_of : Trees → Tree
first_of (more t ts) = t
first_of none = closing_tree

abbrev behind : ℕ → Trees → Trees
behind zero ts = ts
behind (suc n) (more t ts) = behind n ts
behind (suc n) none = none

abbrev child : ℕ → Trees → Tree
child n ts = first_of (behind n ts)

abbrev is_ended : Tree → Bool
is_ended (node r l (more s (more t ts))) = true
is_ended _ = false

abbrev behind_end : Tree → Tree
behind_end (node r l (more s (more (node q k (more t ts)) us))) = t
behind_end (node r l (more t none)) = t
behind_end t = t

abbrev named : Tree → List ℕ
named (leaf (name n)) = n
named _ = []

abbrev system_back : Tree → Option (List ℕ)
system_back (node r l (more s (more (leaf (name n)) ts))) = Some n
system_back _ = None

system_returns : (s : Option (List ℕ)) → system_back (system_tree s) ≡ s
system_returns None = refl
system_returns (Some n) = refl

function_same : (f g : Function) → function_trees f ≡ function_trees g → f ≡ g
function_same f g e =
    let body : (f.variables ≡ g.variables) × (f.statements ≡ g.statements) = function_told f.variables g.variables f.statements g.statements (ap (child 8) e) in
    let parameters_same : f.parameters ≡ g.parameters = told parameters_back parameters_return f.parameters g.parameters (ap (child 3) e) in
    λ i. record {
      name = named (child 1 (e i));
      parameters = parameters_same i;
      runs_on = named (child 6 (e i));
      variables = body.0 i;
      statements = body.1 i;
    }

case_same : (b c : TestCase) → test_case_trees b ≡ test_case_trees c → b ≡ c
case_same b c e =
    let body : body_of b ≡ body_of c = case_told (body_of b) (body_of c) (ap (child 9) e) in
    let system_same : b.system ≡ c.system = told system_back system_returns b.system c.system (ap (child 7) e) in
    λ i. record {
      name = named (child 1 (e i));
      runs_on = named (child 6 (e i));
      system = system_same i;
      setups = (body i).setups;
      starts = (body i).starts;
      variables = (body i).variables;
      statements = (body i).statements;
      all_done = (body i).all_done;
    }

-- how a list type ends
ends_back : (r l : Rule) (b : Bool) (t : Tree) → is_ended (under (end_frames r l b) t) ≡ b
ends_back r l true t = refl
ends_back r l false t = refl

behind_back : (r l : Rule) (b : Bool) (t : Tree) → behind_end (under (end_frames r l b) t) ≡ t
behind_back r l true t = refl
behind_back r l false t = refl

-- a definition, and the tree of it
defined_same : (k l : ℕ) (x y : Defined) (b c : Bool) (t u : Tree) → under (defined_frames k x b) t ≡ under (defined_frames l y c) u
    → (x ≡ y) × (b ≡ c) × (t ≡ u)
defined_same k l (d.Function f) (d.Function g) b c t u e = (ap d.Function (function_same f g (cc)), told may_end_back may_end_returns b c (cc), cc)
defined_same k l (d.TestCase f) (d.TestCase g) b c t u e = (ap d.TestCase (case_same f g (cc)), told may_end_back may_end_returns b c (cc), cc)
defined_same k l (d.Record f) (d.Record g) b c t u e =
    let names : f.name ≡ g.name = cc in
    let fields_same : f.fields ≡ g.fields = told fields_back fields_return f.fields g.fields (cc) in
    (λ i. d.Record (record { name = names i; fields = fields_same i }), told may_end_back may_end_returns b c (cc), cc)
defined_same k l (d.List f) (d.List g) b c t u e =
    let names : f.name ≡ g.name = cc in
    let elements : f.element ≡ g.element = told {view = type_tree} type_back type_returns f.element g.element (cc) in
    let ends : under (end_frames end_of_list definitions b) t ≡ under (end_frames end_of_list definitions c) u = cc in (
      λ i. d.List (record { element = elements i; name = names i }),
      sym (ends_back _ _ b t) ∙ (ap is_ended ends ∙ ends_back _ _ c u),
      sym (behind_back _ _ b t) ∙ (ap behind_end ends ∙ behind_back _ _ c u),
    )
defined_same k l (d.Port f) (d.Port g) b c t u e =
    let names : f.name ≡ g.name = cc in
    let ways_same : f.directions ≡ g.directions = told ways_back ways_return f.directions g.directions (cc) in
    (λ i. d.Port (record { name = names i; directions = ways_same i }), told may_end_back may_end_returns b c (cc), cc)
defined_same k l (d.Component f) (d.Component g) b c t u e =
    let names : f.name ≡ g.name = cc in
    let ports_same : f.ports ≡ g.ports = told ports_back ports_return f.ports g.ports (cc) in
    (λ i. d.Component (record { name = names i; ports = ports_same i }), told may_end_back may_end_returns b c (cc), cc)
defined_same k l _ _ b c t u e = (cc, cc, cc)

abbrev line_back : Tree → Option ℕ
line_back (node r l ts) = l
line_back (leaf s) = None

line_returns : (k : ℕ) (x : Defined) (b : Bool) (t : Tree) → line_back (under (defined_frames k x b) t) ≡ Some k
line_returns k (d.Function f) b t = refl
line_returns k _ b t = refl

abbrev all_tree : List Definition → Tree
all_tree xs = under (frames_of_all xs) closing_tree

first_line : (x : Definition) (xs : List Definition) → line_back (all_tree (x ∷ xs)) ≡ Some x.line
first_line x xs = ap line_back (under_append (definition_frames x) _ _) ∙ line_returns x.line x.defined x.has_semicolon (all_tree xs)

all_same : (xs ys : List Definition) → all_tree xs ≡ all_tree ys → xs ≡ ys
all_same [] [] e = refl
all_same [] (y ∷ ys) e = cc (ap line_back e, first_line y ys)
all_same (x ∷ xs) [] e = cc (ap line_back e, first_line x xs)
all_same (x ∷ xs) (y ∷ ys) e =
    let lines : x.line ≡ y.line = cc (ap line_back e, first_line x xs, first_line y ys) in
    let same : (x.defined ≡ y.defined) × (x.has_semicolon ≡ y.has_semicolon) × (all_tree xs ≡ all_tree ys) =
    defined_same x.line y.line x.defined y.defined x.has_semicolon y.has_semicolon (all_tree xs) (all_tree ys)
    (sym (under_append (definition_frames x) (frames_of_all xs) closing_tree) ∙ (e ∙ under_append (definition_frames y) (frames_of_all ys) closing_tree)) in
    let rest : xs ≡ ys = all_same xs ys same.2 in
    λ i. record { line = lines i; defined = same.0 i; has_semicolon = same.1 i } ∷ rest i

-- two modules of one tree are the same
pub modules_told : (m n : Module) → module_tree m ≡ module_tree n → m ≡ n
modules_told m n e =
    let lines : m.line ≡ n.line = cc in
    let names : m.name ≡ n.name = cc in
    let definitions_same : m.definitions ≡ n.definitions = all_same m.definitions n.definitions (cc) in
    let ends : m.has_semicolon ≡ n.has_semicolon = told may_end_back may_end_returns m.has_semicolon n.has_semicolon (cc) in
    λ i. record { line = lines i; name = names i; definitions = definitions_same i; has_semicolon = ends i }

pub readings_are_unique : (text : List ℕ) (m n : Module) → IsReadAs text m → IsReadAs text n → m ≡ n
readings_are_unique text m n h k =
    let same : h.tokens ≡ k.tokens = tokens_are_unique text h.tokens k.tokens h.has.are k.has.are in
    modules_told m n (one_text_tree (settled k.tokens) (module_tree m) (module_tree n)
    (subst (λ (ts : List PlacedLexeme). IsText (settled ts) (module_tree m)) same h.spelled) k.spelled)
