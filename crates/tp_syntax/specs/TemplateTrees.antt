-- The trees of templates.
use Rattle.std.specs.Prelude.{ℕ, suc, ◌≡◌, ℤ, pos, negsuc, Bool, true, false, List, [], ◌∷◌, map, Option, Some, None}
use Rattle.tp_syntax.specs.declared.word.Word.TheVariants as w
use Rattle.tp_syntax.specs.declared.token.Symbol.{Symbol}
use Rattle.tp_syntax.specs.declared.token.Symbol.TheVariants.{Assign, DotDot, LeftBrace, LeftParen, Minus, Question}
use Rattle.tp_syntax.specs.declared.token.Symbol.TheVariants.{RightBrace, RightParen, Star}
use Rattle.tp_syntax.specs.Lexeme.{name, number, text, word}
use Rattle.tp_syntax.specs.Rule.{an_integer, a_template, uncounted_template, counted_template, other_template}
use Rattle.tp_syntax.specs.Rule.{in_parentheses, after_minus, after_number, upper, template_entries}
use Rattle.tp_syntax.specs.Rule.{after_template_name, more_templates, a_template_field, more_template_fields}
use Rattle.tp_syntax.specs.Reading.{Tree, leaf, node, Trees, none, more, trees_of, of, tree, one, sym, nothing, chain}
use Rattle.tp_tree.specs.declared.message.Template.{Template}
use Rattle.tp_tree.specs.declared.message.Template.TheOpen as t
use Rattle.tp_tree.specs.declared.message.Template.TheFolds.{fold-Template, fold-TemplateField}
use Rattle.tp_tree.specs.declared.message.TemplateField.{TemplateField}

abbrev pub magnitude : ℤ → Tree
magnitude (pos n) = leaf (number n)
magnitude (negsuc n) = leaf (number (suc n))

abbrev pub IsPositive : ℤ → Type 0
IsPositive z = (n : ℕ) × (z ≡ pos n)

abbrev pub IsNegative : ℤ → Type 0
IsNegative z = (n : ℕ) × (z ≡ negsuc n)

abbrev pub integer_tree : ℤ → Tree
integer_tree (pos n) = of an_integer (one (leaf (number n)))
integer_tree (negsuc n) = tree an_integer (sym Minus ∷ leaf (number (suc n)) ∷ [])

abbrev pub upper_tree : Option ℤ → Tree
upper_tree None = of upper (one (leaf (word w.Infinity)))
upper_tree (Some z) = of upper (one (integer_tree z))

-- the trees of a template: as any template; as one that isn't an integer, isn't a name, or is neither; the part after
-- its bracket; and the entries in braces or parentheses that begin with it, if a chain of others follows
pub record Views : Type 0 where
  pub whole : Tree
  pub uncounted : Tree
  pub counted : Tree
  pub other : Tree
  pub inside : Tree
  pub in_braces : Tree → Tree
  pub in_parens : Tree → Tree

pub record FieldViews : Type 0 where
  pub field_name : List ℕ
  pub whole : Tree

-- an integer after a `(`, followed by this tree
abbrev pub number_inside : ℤ → Tree → Tree
number_inside (pos n) t = tree in_parentheses (leaf (number n) ∷ t ∷ [])
number_inside (negsuc n) t =
    tree in_parentheses (sym Minus ∷ tree after_minus (leaf (number (suc n)) ∷ t ∷ []) ∷ [])

abbrev pub listed : Tree → Tree
listed rest = tree after_number (rest ∷ sym RightParen ∷ [])

abbrev pub ranged : Option ℤ → Tree
ranged high = tree after_number (sym DotDot ∷ upper_tree high ∷ sym RightParen ∷ [])

-- entries in braces after the first, which this tree is, followed by this one
abbrev pub in_braces_after : Tree → Tree → Tree
in_braces_after first rest = tree template_entries (first ∷ rest ∷ sym RightBrace ∷ [])

-- the same in parentheses
abbrev pub in_parens_after : Tree → Tree → Tree
in_parens_after first rest = tree in_parentheses (first ∷ rest ∷ sym RightParen ∷ [])

abbrev pub of_integer : ℤ → Views
of_integer z = record {
  whole = of a_template (one (integer_tree z));
  uncounted = nothing;
  counted = of counted_template (one (integer_tree z));
  other = nothing;
  inside = nothing;
  in_braces = in_braces_after (of counted_template (one (integer_tree z)));
  in_parens = λ rest. number_inside z (listed rest);
}

abbrev pub name_tree : List ℕ → Tree
name_tree n = of uncounted_template (one (leaf (name n)))

abbrev pub of_name : List ℕ → Views
of_name n = record {
  whole = of a_template (one (name_tree n));
  uncounted = name_tree n;
  counted = nothing;
  other = nothing;
  inside = nothing;
  in_braces =
      λ rest. tree template_entries
      (leaf (name n) ∷ tree after_template_name (rest ∷ sym RightBrace ∷ []) ∷ []);
  in_parens = in_parens_after (name_tree n);
}

abbrev pub around : Tree → Tree → Views
around o i = record {
  whole = of a_template (one (of uncounted_template (one o)));
  uncounted = of uncounted_template (one o);
  counted = of counted_template (one o);
  other = o;
  inside = i;
  in_braces = in_braces_after (of counted_template (one o));
  in_parens = in_parens_after (of uncounted_template (one o));
}

abbrev pub of_other : Trees → Views
of_other trees = around (of other_template trees) nothing

abbrev pub of_bracket : Symbol → Tree → Views
of_bracket s i = around (tree other_template (sym s ∷ i ∷ [])) i

abbrev pub wholes : List Views → List Tree
wholes vs = map (λ (v : Views). v.whole) vs

abbrev pub in_parens_of : List Views → Tree
in_parens_of [] = nothing
in_parens_of (v ∷ vs) = v.in_parens (chain more_templates (wholes vs))

abbrev pub entries_of : List Views → Tree
entries_of [] = of template_entries (one (sym RightBrace))
entries_of (v ∷ vs) = v.in_braces (chain more_templates (wholes vs))

abbrev pub complement_of : List Views → Trees
complement_of [] = none
complement_of (v ∷ vs) =
    trees_of (leaf (word w.Complement) ∷ sym LeftParen ∷ v.whole
    ∷ chain more_templates (wholes vs) ∷ sym RightParen ∷ [])

abbrev pub field_whole : FieldViews → Tree
field_whole f = tree a_template_field (leaf (name f.field_name) ∷ sym Assign ∷ f.whole ∷ [])

abbrev pub fields_of : List FieldViews → Tree
fields_of [] = nothing
fields_of (f ∷ fs) =
    tree template_entries (leaf (name f.field_name) ∷ tree after_template_name (sym Assign ∷ f.whole
    ∷ chain more_template_fields (map field_whole fs) ∷ sym RightBrace ∷ []) ∷ [])

abbrev pub range_of : Option ℤ → Option ℤ → Tree
range_of None high =
    tree in_parentheses (sym Minus ∷ tree after_minus (leaf (word w.Infinity) ∷ sym DotDot
    ∷ upper_tree high ∷ sym RightParen ∷ []) ∷ [])
range_of (Some z) high = number_inside z (ranged high)

abbrev pub bool_leaf : Bool → Tree
bool_leaf true = leaf (word w.True)
bool_leaf false = leaf (word w.False)

abbrev pub template_step : t.Template-F Views FieldViews → Views
template_step (t.Int z) = of_integer z
template_step (t.Bool b) = of_other (one (bool_leaf b))
template_step (t.Text bs) = of_other (one (leaf (text bs)))
template_step (t.Name n) = of_name n
template_step t.Any = of_other (one (sym Question))
template_step t.AnyOrNone = of_other (one (sym Star))
template_step (t.OneOf vs) = of_bracket LeftParen (in_parens_of vs)
template_step (t.Complement vs) = of_other (complement_of vs)
template_step (t.Range low high) = of_bracket LeftParen (range_of low high)
template_step (t.Pattern bs) = of_other (trees_of (leaf (word w.Pattern) ∷ leaf (text bs) ∷ []))
template_step (t.List vs) = of_bracket LeftBrace (entries_of vs)
template_step (t.Record fs) = of_bracket LeftBrace (fields_of fs)

abbrev pub field_step : t.TemplateField-F Views FieldViews → FieldViews
field_step f = record { field_name = f.name; whole = f.template.whole }

unfoldable pub template_views : Template → Views
template_views = fold-Template Views FieldViews template_step field_step

unfoldable pub field_views : TemplateField → FieldViews
field_views = fold-TemplateField Views FieldViews template_step field_step

abbrev pub template_tree : Template → Tree
template_tree t = (template_views t).whole

abbrev pub uncounted_tree : Template → Tree
uncounted_tree t = (template_views t).uncounted

abbrev pub counted_tree : Template → Tree
counted_tree t = (template_views t).counted

abbrev pub other_tree : Template → Tree
other_tree t = (template_views t).other

abbrev pub inside_tree : Template → Tree
inside_tree t = (template_views t).inside

abbrev pub field_tree : TemplateField → Tree
field_tree f = field_whole (field_views f)

-- the second tree below a node
abbrev pub second_below : Tree → Tree
second_below (node r line (more t (more u us))) = u
second_below _ = nothing

abbrev pub after_minus_tree : Template → Tree
after_minus_tree t = second_below (inside_tree t)

-- the tree after the integer that follows the `(`
abbrev pub number_part : ℤ → Tree → Tree
number_part (pos n) t = second_below t
number_part (negsuc n) t = second_below (second_below t)

abbrev pub after_number_tree : ℤ → Template → Tree
after_number_tree z t = number_part z (inside_tree t)

-- the template isn't an integer, isn't a name, or is neither, so that its trees follow from the one of that kind
abbrev pub IsUncounted : Template → Type 0
IsUncounted t = (template_tree t ≡ of a_template (one (uncounted_tree t)))
    × ((rest : Tree)
    → (template_views t).in_parens rest ≡ in_parens_after (uncounted_tree t) rest)

abbrev pub IsCounted : Template → Type 0
IsCounted t =
    (rest : Tree) → (template_views t).in_braces rest ≡ in_braces_after (counted_tree t) rest

abbrev pub IsOther : Template → Type 0
IsOther t = template_views t ≡ around (other_tree t) (inside_tree t)

-- the template is in brackets that begin with this symbol, followed by this tree
abbrev pub IsInside : Symbol → Tree → Template → Type 0
IsInside s i t = template_views t ≡ of_bracket s i
