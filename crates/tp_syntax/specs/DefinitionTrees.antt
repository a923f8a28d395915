-- The trees of types, functions, test cases and other definitions, and of a module.
use Rattle.std.specs.Prelude.{ℕ, Bool, true, false, cond, List, [], ◌∷◌, ◌++◌, map, Some, None, Option}
use Rattle.tp_syntax.specs.declared.word.Word.TheVariants as w
use Rattle.tp_syntax.specs.declared.token.Symbol.TheVariants.{LeftBrace, LeftParen, RightParen, RightBrace, Semicolon}
use Rattle.tp_syntax.specs.Lexeme.{name, word}
use Rattle.tp_syntax.specs.Item.{Item, token, rule, a_name, sy, wo}
use Rattle.tp_syntax.specs.Rule.{Rule, a_definition, a_module, a_parameter, after_record, after_type, behaviour, definitions}
use Rattle.tp_syntax.specs.Rule.{end_of_list, end_of_way, more_parameters, more_ways, parameters, variables, ways}
use Rattle.tp_syntax.specs.Rule.{declared_name, a_field, fields, more_fields, way_word, a_way, more_types}
use Rattle.tp_syntax.specs.Rule.{a_declaration, declarations, end_of_declaration, more_names, a_variable, case_setups}
use Rattle.tp_syntax.specs.Rule.{end_of_variable, may_have_system}
use Rattle.tp_syntax.specs.Reading.{Tree, Trees, leaf, node, none, trees_of, of, tree, one, sym, nothing, chain}
use Rattle.tp_tree.specs.declared.tree.Direction.{Direction}
use Rattle.tp_tree.specs.declared.tree.Function.{Function}
use Rattle.tp_tree.specs.declared.tree.Parameter.{Parameter}
use Rattle.tp_tree.specs.declared.tree.Statement.{Statement}
use Rattle.tp_tree.specs.declared.tree.Defined.{Defined}
use Rattle.tp_tree.specs.declared.tree.Defined.TheVariants as defined
use Rattle.tp_tree.specs.declared.tree.Definition.{Definition}
use Rattle.tp_tree.specs.declared.tree.Module.{Module}
use Rattle.tp_syntax.specs.CaseTrees.{variable_part, Part, body_tree, Kind, declares}
use Rattle.tp_syntax.specs.Parsing.{Frame, all_frames, closing_tree, end_frames, enter, frame, may_end_tree, under}
use Rattle.tp_syntax.specs.Parsing.{semicolon_frames}
use Rattle.tp_syntax.specs.OperationTrees.{type_tree}
use Rattle.tp_tree.specs.declared.tree.DeclaredName.{DeclaredName}
use Rattle.tp_tree.specs.declared.tree.FieldType.{FieldType}
use Rattle.tp_tree.specs.declared.tree.Way.{Way}
use Rattle.tp_tree.specs.declared.tree.Way.TheVariants as through
use Rattle.tp_tree.specs.declared.tree.PortDeclaration.{PortDeclaration}
use Rattle.tp_tree.specs.declared.tree.TestCase.{TestCase}
use Rattle.tp_syntax.specs.declared.case_bodies.CaseBody.{CaseBody}
use Rattle.tp_syntax.specs.StatementTrees.{statements_tree}

abbrev pub declared_tree : DeclaredName → Tree
declared_tree d = node declared_name (Some d.line) (one (leaf (name d.name)))

abbrev pub field_type_tree : FieldType → Tree
field_type_tree f = tree a_field (type_tree f.type_name ∷ declared_tree f.name ∷ [])

-- the fields of a record, and its `}`
abbrev pub fields_tree : List FieldType → Tree
fields_tree [] = of fields (one (sym RightBrace))
fields_tree (f ∷ fs) =
    tree fields
    (field_type_tree f ∷ chain more_fields (map field_type_tree fs) ∷ sym RightBrace ∷ [])

abbrev pub way_tree : Way → Tree
way_tree through.In = of way_word (one (leaf (word w.In)))
way_tree through.Out = of way_word (one (leaf (word w.Out)))
way_tree through.InOut = of way_word (one (leaf (word w.Inout)))

-- a direction with the first and the others of its types
abbrev pub direction_of : Tree → List Tree → Tree
direction_of way [] = of a_way (one way)
direction_of way (x ∷ xs) = tree a_way (way ∷ x ∷ chain more_types xs ∷ [])

abbrev pub direction_tree : Direction → Tree
direction_tree d = direction_of (way_tree d.way) (map type_tree d.types)

-- a declaration with the first and the others of its names
abbrev pub declaration_of : List ℕ → List Tree → Tree
declaration_of type_name [] = tree a_declaration (leaf (word w.Port) ∷ leaf (name type_name) ∷ [])
declaration_of type_name (x ∷ xs) =
    tree a_declaration (leaf (word w.Port) ∷ leaf (name type_name) ∷ x ∷ chain more_names xs ∷ [])

abbrev pub port_tree : PortDeclaration → Tree
port_tree p = declaration_of p.type_name (map declared_tree p.names)

-- the end of a part in braces: a `;`, after which others may follow, or the `}` after the last part
abbrev pub closing : {A : Type 0} → Rule → Bool → List A → Tree → Tree
closing e true xs rest = tree e (sym Semicolon ∷ rest ∷ [])
closing e false [] rest = of e (one (sym RightBrace))
closing e false (x ∷ xs) rest = tree e (nothing ∷ rest ∷ [])

-- parts in braces, each with its end, and the `}` after them
abbrev pub steps : {A : Type 0} → Rule → Rule → (A → Tree) → (A → Bool) → List A → Tree
steps m e view ends [] = of m (one (sym RightBrace))
steps m e view ends (x ∷ xs) = tree m (view x ∷ closing e (ends x) xs (steps m e view ends xs) ∷ [])

-- the ports of a component, and its `}`
abbrev pub ports_tree : List PortDeclaration → Tree
ports_tree ps =
    steps declarations end_of_declaration port_tree (λ (p : PortDeclaration). p.has_semicolon) ps

-- the directions of a port, and its `}`
abbrev pub ways_tree : List Direction → Tree
ways_tree [] = nothing
ways_tree (x ∷ xs) = tree ways (direction_tree x ∷ closing end_of_way x.has_semicolon xs
    (steps more_ways end_of_way direction_tree (λ (y : Direction). y.has_semicolon) xs) ∷ [])

abbrev pub variable_tree : ℕ → Kind → Tree
variable_tree line (declares t n) =
    node a_variable (Some line) (trees_of (leaf (word w.Var) ∷ type_tree t ∷ leaf (name n) ∷ []))
variable_tree line _ = closing_tree

-- a variable before the rest of the body
abbrev pub local_frames : Part → List Frame
local_frames p =
    frame variables None (variable_tree p.line p.kind ∷ [])
    ∷ semicolon_frames end_of_variable p.semicolon

-- whether a further part may follow these
abbrev pub open_behind : Bool → List Part → Bool
open_behind b [] = b
open_behind b (p ∷ ps) = open_behind p.semicolon ps

abbrev pub behind_variables : Bool → List Statement → Tree
behind_variables true ss = of variables (one (statements_tree ss))
behind_variables false [] = closing_tree
behind_variables false (s ∷ ss) = tree variables (nothing ∷ statements_tree (s ∷ ss) ∷ [])

-- the body of a function, and the `}` after it
abbrev pub function_tree : List Part → List Statement → Tree
function_tree ps ss = under (all_frames local_frames ps) (behind_variables (open_behind true ps) ss)

abbrev pub parameter_tree : Parameter → Tree
parameter_tree p = tree a_parameter (leaf (name p.type_name) ∷ declared_tree p.name ∷ [])

-- the parameters of a function, and its `)`
abbrev pub parameters_tree : List Parameter → Tree
parameters_tree [] = of parameters (one (sym RightParen))
parameters_tree (p ∷ ps) =
    tree parameters (parameter_tree p ∷ chain more_parameters (map parameter_tree ps)
    ∷ sym RightParen ∷ [])

-- the items of a function, and their trees
abbrev pub function_items : List Item
function_items =
    wo w.Function ∷ token a_name ∷ sy LeftParen ∷ rule parameters ∷ wo w.Runs ∷ wo w.On
    ∷ token a_name ∷ sy LeftBrace ∷ rule variables ∷ []

abbrev pub function_trees : Function → Trees
function_trees f =
    trees_of
    (leaf (word w.Function) ∷ leaf (name f.name) ∷ sym LeftParen ∷ parameters_tree f.parameters
    ∷ leaf (word w.Runs) ∷ leaf (word w.On) ∷ leaf (name f.runs_on) ∷ sym LeftBrace
    ∷ function_tree (map variable_part f.variables) f.statements ∷ [])

abbrev pub system_tree : Option (List ℕ) → Tree
system_tree None = of may_have_system none
system_tree (Some n) = tree may_have_system (leaf (word w.System) ∷ leaf (name n) ∷ [])

-- the items of a test case, its body, and the trees of its items
abbrev pub case_items : List Item
case_items =
    wo w.Testcase ∷ token a_name ∷ sy LeftParen ∷ sy RightParen ∷ wo w.Runs ∷ wo w.On ∷ token a_name
    ∷ rule may_have_system ∷ sy LeftBrace ∷ rule case_setups ∷ []

abbrev pub body_of : TestCase → CaseBody
body_of c = record {
  setups = c.setups;
  starts = c.starts;
  variables = c.variables;
  statements = c.statements;
  all_done = c.all_done;
}

abbrev pub test_case_trees : TestCase → Trees
test_case_trees c =
    trees_of
    (leaf (word w.Testcase) ∷ leaf (name c.name) ∷ sym LeftParen ∷ sym RightParen
    ∷ leaf (word w.Runs) ∷ leaf (word w.On) ∷ leaf (name c.runs_on) ∷ system_tree c.system
    ∷ sym LeftBrace ∷ body_tree (body_of c) ∷ [])

abbrev pub behaviour_tree : Defined → Tree
behaviour_tree (defined.Function f) = of behaviour (function_trees f)
behaviour_tree (defined.TestCase c) = of behaviour (test_case_trees c)
behaviour_tree _ = nothing

-- whether it is a function or a test case; and whether it is a record or a record of
abbrev pub is_behaviour : Defined → Bool
is_behaviour (defined.Function f) = true
is_behaviour (defined.TestCase c) = true
is_behaviour _ = false

abbrev pub is_record : Defined → Bool
is_record (defined.Record r) = true
is_record (defined.List l) = true
is_record _ = false

-- the frames after `record`
abbrev pub after_record_frames : Defined → Bool → List Frame
after_record_frames (defined.Record r) b =
    frame after_record None
    (leaf (name r.name) ∷ sym LeftBrace ∷ fields_tree r.fields ∷ may_end_tree b ∷ [])
    ∷ enter definitions
after_record_frames (defined.List l) b =
    frame after_record None (leaf (word w.Of) ∷ type_tree l.element ∷ leaf (name l.name) ∷ [])
    ∷ end_frames end_of_list definitions b
after_record_frames _ b = []

-- the frames after `type`
abbrev pub other_type_frames : Defined → Bool → List Frame
other_type_frames (defined.Port p) b =
    frame after_type None (leaf (word w.Port) ∷ leaf (name p.name) ∷ leaf (word w.Message)
    ∷ sym LeftBrace ∷ ways_tree p.directions ∷ may_end_tree b ∷ []) ∷ enter definitions
other_type_frames (defined.Component c) b =
    frame after_type None (leaf (word w.Component) ∷ leaf (name c.name)
    ∷ sym LeftBrace ∷ ports_tree c.ports ∷ may_end_tree b ∷ []) ∷ enter definitions
other_type_frames _ b = []

abbrev pub after_type_frames : Defined → Bool → List Frame
after_type_frames x b =
    cond (is_record x) (frame after_type None (leaf (word w.Record) ∷ []) ∷ after_record_frames x b)
    (other_type_frames x b)

abbrev pub defined_frames : ℕ → Defined → Bool → List Frame
defined_frames line x b =
    cond (is_behaviour x)
    (frame a_definition (Some line) (behaviour_tree x ∷ may_end_tree b ∷ [])
    ∷ enter definitions)
    (frame a_definition (Some line) (leaf (word w.Type) ∷ []) ∷ after_type_frames x b)

abbrev pub definition_frames : Definition → List Frame
definition_frames x = defined_frames x.line x.defined x.has_semicolon

-- the frames of definitions, one after the other
abbrev pub frames_of_all : List Definition → List Frame
frames_of_all xs = all_frames (λ (fs : List Frame). fs) (map definition_frames xs)

-- the definitions, and the `}` after them
abbrev pub definitions_tree : List Definition → Tree
definitions_tree xs = under (enter definitions ++ frames_of_all xs) closing_tree

abbrev pub module_tree : Module → Tree
module_tree m =
    node a_module (Some m.line) (trees_of (leaf (word w.Module) ∷ leaf (name m.name) ∷ sym LeftBrace
    ∷ definitions_tree m.definitions ∷ may_end_tree m.has_semicolon ∷ []))
