-- The trees of values.
use Rattle.std.specs.Prelude.{◌≡◌, List, [], ◌∷◌, map, ℕ}
use Rattle.tp_syntax.specs.declared.token.Symbol.TheVariants.{Assign, LeftBrace, RightBrace}
use Rattle.tp_syntax.specs.Lexeme.{name, text}
use Rattle.tp_syntax.specs.Rule.{a_value, unnamed_value, value_entries, after_value_name, more_values, a_value_field}
use Rattle.tp_syntax.specs.Rule.{more_value_fields}
use Rattle.tp_syntax.specs.Reading.{Tree, leaf, of, tree, one, sym, chain, nothing}
use Rattle.tp_tree.specs.declared.message.Value.{Value}
use Rattle.tp_tree.specs.declared.message.Value.TheOpen as layer
use Rattle.tp_tree.specs.declared.message.Value.TheFolds.{fold-Value, fold-ValueField}
use Rattle.tp_tree.specs.declared.message.ValueField.{ValueField}
use Rattle.tp_syntax.specs.TemplateTrees.{integer_tree, bool_leaf}

-- the trees of a value: as any value; as one that isn't a name; the part after its bracket; and the entries in braces
-- that begin with it, if a chain of others follows
pub record Views : Type 0 where
  pub whole : Tree
  pub unnamed : Tree
  pub inside : Tree
  pub in_braces : Tree → Tree

pub record FieldViews : Type 0 where
  pub field_name : List ℕ
  pub whole : Tree

abbrev pub of_name : List ℕ → Views
of_name n = record {
  whole = of a_value (one (leaf (name n)));
  unnamed = nothing;
  inside = nothing;
  in_braces =
      λ rest. tree value_entries
      (leaf (name n) ∷ tree after_value_name (rest ∷ sym RightBrace ∷ []) ∷ []);
}

abbrev pub around : Tree → Tree → Views
around u i = record {
  whole = of a_value (one u);
  unnamed = u;
  inside = i;
  in_braces = λ rest. tree value_entries (u ∷ rest ∷ sym RightBrace ∷ []);
}

abbrev pub of_unnamed : Tree → Views
of_unnamed t = around (of unnamed_value (one t)) nothing

abbrev pub of_bracket : Tree → Views
of_bracket i = around (tree unnamed_value (sym LeftBrace ∷ i ∷ [])) i

abbrev pub wholes : List Views → List Tree
wholes vs = map (λ (v : Views). v.whole) vs

abbrev pub entries_of : List Views → Tree
entries_of [] = of value_entries (one (sym RightBrace))
entries_of (v ∷ vs) = v.in_braces (chain more_values (wholes vs))

abbrev pub field_whole : FieldViews → Tree
field_whole f = tree a_value_field (leaf (name f.field_name) ∷ sym Assign ∷ f.whole ∷ [])

abbrev pub fields_of : List FieldViews → Tree
fields_of [] = nothing
fields_of (f ∷ fs) =
    tree value_entries (leaf (name f.field_name) ∷ tree after_value_name (sym Assign ∷ f.whole
    ∷ chain more_value_fields (map field_whole fs) ∷ sym RightBrace ∷ []) ∷ [])

abbrev pub value_step : layer.Value-F Views FieldViews → Views
value_step (layer.Int z) = of_unnamed (integer_tree z)
value_step (layer.Bool b) = of_unnamed (bool_leaf b)
value_step (layer.Text bs) = of_unnamed (leaf (text bs))
value_step (layer.Name n) = of_name n
value_step (layer.List vs) = of_bracket (entries_of vs)
value_step (layer.Record fs) = of_bracket (fields_of fs)

abbrev pub field_step : layer.ValueField-F Views FieldViews → FieldViews
field_step f = record { field_name = f.name; whole = f.value.whole }

unfoldable pub value_views : Value → Views
value_views = fold-Value Views FieldViews value_step field_step

unfoldable pub field_views : ValueField → FieldViews
field_views = fold-ValueField Views FieldViews value_step field_step

abbrev pub value_tree : Value → Tree
value_tree v = (value_views v).whole

abbrev pub unnamed_tree : Value → Tree
unnamed_tree v = (value_views v).unnamed

abbrev pub inside_tree : Value → Tree
inside_tree v = (value_views v).inside

abbrev pub field_tree : ValueField → Tree
field_tree f = field_whole (field_views f)

-- the value isn't a name, so that two of its trees determine the others
abbrev pub IsUnnamed : Value → Type 0
IsUnnamed v = value_views v ≡ around (unnamed_tree v) (inside_tree v)

-- the value is in braces
abbrev pub IsBraced : Value → Type 0
IsBraced v = value_views v ≡ of_bracket (inside_tree v)
