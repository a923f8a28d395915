-- Types and their parts are told by their trees: what reads a tree back gives the part.
use Rattle.std.proofs.Common.{◌≡◌, Bool, true, false, List, [], ◌∷◌, Some, map, refl, ap, sym, ◌∙◌}
use Rattle.tp_syntax.specs.declared.word.Word.{Word}
use Rattle.tp_syntax.specs.declared.word.Word.TheVariants as w
use Rattle.tp_syntax.specs.Lexeme.{name, word, symbol}
use Rattle.tp_tree.specs.declared.message.TypeName.{TypeName}
use Rattle.tp_tree.specs.declared.message.TypeName.TheVariants as type_name
use Rattle.tp_tree.specs.declared.tree.DeclaredName.{DeclaredName}
use Rattle.tp_tree.specs.declared.tree.Direction.{Direction}
use Rattle.tp_tree.specs.declared.tree.FieldType.{FieldType}
use Rattle.tp_tree.specs.declared.tree.Parameter.{Parameter}
use Rattle.tp_tree.specs.declared.tree.PortDeclaration.{PortDeclaration}
use Rattle.tp_tree.specs.declared.tree.Way.{Way}
use Rattle.tp_tree.specs.declared.tree.Way.TheVariants as y
use Rattle.tp_syntax.specs.Rule.{Rule, declarations, end_of_declaration, end_of_way, more_fields, more_names, more_parameters, more_types, more_ways, ways}
use Rattle.tp_syntax.specs.Reading.{Tree, leaf, node, Trees, none, more, of, one, chain}
use Rattle.tp_syntax.specs.OperationTrees.{type_tree}
use Rattle.tp_syntax.specs.DefinitionTrees.{closing, steps, declared_tree, direction_of, direction_tree, declaration_of, field_type_tree, fields_tree, port_tree, ports_tree, way_tree, parameter_tree, parameters_tree, ways_tree}

-- what is read back is told
pub told : {A B : Type 0} {view : A → B} (back : B → A) → ((x : A) → back (view x) ≡ x) → (x y : A) → view x ≡ view y → x ≡ y
told back returns x y e = sym (returns x) ∙ (ap back e ∙ returns y)

-- the trees of a chain, and of what begins with a tree and a chain of others
abbrev pub chain_back : Tree → List Tree
chain_back (node r l (more s (more t (more u ts)))) = t ∷ chain_back u
chain_back _ = []

abbrev pub row_back : Trees → List Tree
row_back (more t (more u ts)) = t ∷ chain_back u
row_back _ = []

chain_returns : (r : Rule) (ts : List Tree) → chain_back (chain r ts) ≡ ts
chain_returns r [] = refl
chain_returns r (t ∷ ts) = ap (λ (us : List Tree). t ∷ us) (chain_returns r ts)

module _ {A : Type 0} (view : A → Tree) (back : Tree → A) (returns : (x : A) → back (view x) ≡ x) where
  map_returns : (xs : List A) → map back (map view xs) ≡ xs
  map_returns [] = refl
  map_returns (x ∷ xs) = ap (λ (y : A). y ∷ map back (map view xs)) (returns x) ∙ ap (λ (ys : List A). x ∷ ys) (map_returns xs)

  pub row_returns : (r : Rule) (xs : List A) → map back (chain_back (chain r (map view xs))) ≡ xs
  row_returns r xs = ap (map back) (chain_returns r (map view xs)) ∙ map_returns xs

  pub row_more : (r : Rule) (x : A) (xs : List A) → map back (view x ∷ chain_back (chain r (map view xs))) ≡ x ∷ xs
  row_more r x xs = ap (λ (y : A). y ∷ map back (chain_back (chain r (map view xs)))) (returns x) ∙ ap (λ (ys : List A). x ∷ ys) (row_returns r xs)

abbrev is_symbol : Tree → Bool
is_symbol (leaf (symbol s)) = true
is_symbol _ = false

-- parts in braces, each read back from its tree and whether a `;` follows
abbrev steps_back : {A : Type 0} → (Bool → Tree → A) → Tree → List A
steps_back back (node m l (more t (more (node e k (more s (more u us))) ts))) = back (is_symbol s) t ∷ steps_back back u
steps_back back (node m l (more t (more (node e k (more s none)) ts))) = back false t ∷ []
steps_back back _ = []

module _ {A : Type 0} (view : A → Tree) (ends : A → Bool) (back : Bool → Tree → A) (returns : (x : A) → back (ends x) (view x) ≡ x) where
  closing_returns : (q m e : Rule) (t : Tree) (b : Bool) (xs : List A)
      → steps_back back (of q (more t (one (closing e b xs (steps m e view ends xs))))) ≡ back b t ∷ steps_back back (steps m e view ends xs)
  closing_returns q m e t true xs = refl
  closing_returns q m e t false [] = refl
  closing_returns q m e t false (x ∷ xs) = refl

  pub steps_return : (m e : Rule) (xs : List A) → steps_back back (steps m e view ends xs) ≡ xs
  steps_return m e [] = refl
  steps_return m e (x ∷ xs) = closing_returns m m e (view x) (ends x) xs
      ∙ (ap (λ (z : A). z ∷ steps_back back (steps m e view ends xs)) (returns x) ∙ ap (λ (zs : List A). x ∷ zs) (steps_return m e xs))

  pub steps_more : (q m e : Rule) (x : A) (xs : List A)
      → steps_back back (of q (more (view x) (one (closing e (ends x) xs (steps m e view ends xs))))) ≡ x ∷ xs
  steps_more q m e x xs = closing_returns q m e (view x) (ends x) xs
      ∙ (ap (λ (y : A). y ∷ steps_back back (steps m e view ends xs)) (returns x) ∙ ap (λ (ys : List A). x ∷ ys) (steps_return m e xs))

abbrev pub predefined_back : Word → TypeName
predefined_back w.Boolean = type_name.Boolean
predefined_back w.Charstring = type_name.Charstring
predefined_back _ = type_name.Integer

abbrev pub type_in : Trees → TypeName
type_in (more (leaf (name n)) ts) = type_name.Named n
type_in (more (leaf (word x)) ts) = predefined_back x
type_in (more (node r l us) ts) = type_in us
type_in _ = type_name.Integer

abbrev pub type_back : Tree → TypeName
type_back (node r l ts) = type_in ts
type_back (leaf s) = type_name.Integer

pub type_returns : (t : TypeName) → type_back (type_tree t) ≡ t
type_returns (type_name.Named n) = refl
type_returns t = refl

abbrev declared_back : Tree → DeclaredName
declared_back (node r (Some l) (more (leaf (name n)) ts)) = record { line = l; name = n }
declared_back _ = record { line = 0; name = [] }

abbrev field_back : Tree → FieldType
field_back (node r l (more t (more d ts))) = record { type_name = type_back t; name = declared_back d }
field_back _ = record { type_name = type_name.Integer; name = record { line = 0; name = [] } }

field_returns : (f : FieldType) → field_back (field_type_tree f) ≡ f
field_returns f = ap (λ (t : TypeName). record { type_name = t; name = f.name }) (type_returns f.type_name)

abbrev pub fields_back : Tree → List FieldType
fields_back (node r l ts) = map field_back (row_back ts)
fields_back (leaf s) = []

pub fields_return : (fs : List FieldType) → fields_back (fields_tree fs) ≡ fs
fields_return [] = refl
fields_return (f ∷ fs) = row_more field_type_tree field_back field_returns more_fields f fs

abbrev parameter_back : Tree → Parameter
parameter_back (node r l (more (leaf (name t)) (more d ts))) = record { type_name = t; name = declared_back d }
parameter_back _ = record { type_name = []; name = record { line = 0; name = [] } }

abbrev pub parameters_back : Tree → List Parameter
parameters_back (node r l ts) = map parameter_back (row_back ts)
parameters_back (leaf s) = []

pub parameters_return : (ps : List Parameter) → parameters_back (parameters_tree ps) ≡ ps
parameters_return [] = refl
parameters_return (p ∷ ps) = row_more parameter_tree parameter_back (λ (x : Parameter). refl) more_parameters p ps

abbrev way_of : Word → Way
way_of w.In = y.In
way_of w.Out = y.Out
way_of _ = y.InOut

abbrev way_back : Tree → Way
way_back (node r l (more (leaf (word x)) ts)) = way_of x
way_back _ = y.InOut

way_returns : (x : Way) → way_back (way_tree x) ≡ x
way_returns y.In = refl
way_returns x = refl

abbrev direction_back : Bool → Tree → Direction
direction_back b (node r l (more x ts)) = record { way = way_back x; types = map type_back (row_back ts); has_semicolon = b }
direction_back b _ = record { way = y.InOut; types = []; has_semicolon = b }

direction_returns : (x : Direction) → direction_back x.has_semicolon (direction_tree x) ≡ x
direction_returns x = parts x.way x.types
  where
    parts : (a : Way) (ts : List TypeName) → direction_back x.has_semicolon (direction_of (way_tree a) (map type_tree ts))
        ≡ record { way = a; types = ts; has_semicolon = x.has_semicolon }
    parts a [] = ap (λ (b : Way). record { way = b; types = []; has_semicolon = x.has_semicolon }) (way_returns a)
    parts a (t ∷ ts) = ap (λ (b : Way). record { way = b; types = map type_back (type_tree t ∷ chain_back (chain more_types (map type_tree ts))); has_semicolon = x.has_semicolon })
        (way_returns a) ∙ ap (λ (us : List TypeName). record { way = a; types = us; has_semicolon = x.has_semicolon }) (row_more type_tree type_back type_returns more_types t ts)

abbrev pub ways_back : Tree → List Direction
ways_back = steps_back direction_back

pub ways_return : (xs : List Direction) → ways_back (ways_tree xs) ≡ xs
ways_return [] = refl
ways_return (x ∷ xs) = steps_more direction_tree (λ (x : Direction). x.has_semicolon) direction_back direction_returns ways more_ways end_of_way x xs

abbrev port_back : Bool → Tree → PortDeclaration
port_back b (node r l (more s (more (leaf (name t)) ts))) = record { type_name = t; names = map declared_back (row_back ts); has_semicolon = b }
port_back b _ = record { type_name = []; names = []; has_semicolon = b }

port_returns : (p : PortDeclaration) → port_back p.has_semicolon (port_tree p) ≡ p
port_returns p = parts p.names
  where
    parts : (ds : List DeclaredName) → port_back p.has_semicolon (declaration_of p.type_name (map declared_tree ds))
        ≡ record { type_name = p.type_name; names = ds; has_semicolon = p.has_semicolon }
    parts [] = refl
    parts (d ∷ ds) = ap (λ (es : List DeclaredName). record { type_name = p.type_name; names = es; has_semicolon = p.has_semicolon })
        (row_more declared_tree declared_back (λ (x : DeclaredName). refl) more_names d ds)

abbrev pub ports_back : Tree → List PortDeclaration
ports_back = steps_back port_back

pub ports_return : (ps : List PortDeclaration) → ports_back (ports_tree ps) ≡ ps
ports_return ps = steps_return port_tree (λ (p : PortDeclaration). p.has_semicolon) port_back port_returns declarations end_of_declaration ps
