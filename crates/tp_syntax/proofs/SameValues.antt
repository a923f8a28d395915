-- A value is told by its tree: what reads the tree back gives the value.
use Rattle.std.proofs.Common.{◌≡◌, ℕ, ℤ, pos, negsuc, suc, Bool, true, false, List, [], ◌∷◌, map, refl, ap₂}
use Rattle.tp_syntax.specs.declared.word.Word.{Word}
use Rattle.tp_syntax.specs.declared.word.Word.TheVariants as w
use Rattle.tp_syntax.specs.Lexeme.{name, number, text, word, symbol}
use Rattle.tp_tree.specs.declared.message.Value.{Value}
use Rattle.tp_tree.specs.declared.message.Value.TheOpen as o
use Rattle.tp_tree.specs.declared.message.Value.TheViews.{roll-Value, roll-ValueField}
use Rattle.tp_tree.specs.declared.message.Value.TheFolds.{map-Value, fold-roll-ValueField, ind-Value}
use Rattle.tp_tree.specs.declared.message.ValueField.{ValueField}
use Rattle.tp_syntax.specs.Rule.{unnamed_value, more_values, more_value_fields}
use Rattle.tp_syntax.specs.Reading.{Tree, leaf, node, Trees, none, more, of, chain}
use Rattle.tp_syntax.specs.ValueTrees.{Views, FieldViews, around, field_whole, wholes, entries_of, fields_of, value_step, field_step, value_views, field_views, value_tree}
use Rattle.tp_syntax.proofs.ValueTrees.{views_at}

abbrev pub is_true : Word → Bool
is_true w.True = true
is_true _ = false

abbrev pub integer_in : Trees → ℤ
integer_in (more (leaf (number n)) ts) = pos n
integer_in (more t (more (leaf (number (suc n))) ts)) = negsuc n
integer_in _ = pos 0

abbrev field_of : List ℕ → Value → ValueField
field_of n x = roll-ValueField (record { name = n; value = x })

mutual
  pub value_back : Tree → Value
  value_back (node r l ts) = value_in ts
  value_back (leaf t) = roll-Value (o.List [])

  value_in : Trees → Value
  value_in (more (leaf (name n)) ts) = roll-Value (o.Name n)
  value_in (more (node r l us) ts) = unnamed_in us
  value_in _ = roll-Value (o.List [])

  unnamed_in : Trees → Value
  unnamed_in (more (leaf (text bs)) ts) = roll-Value (o.Text bs)
  unnamed_in (more (leaf (word x)) ts) = roll-Value (o.Bool (is_true x))
  unnamed_in (more (node r l us) ts) = roll-Value (o.Int (integer_in us))
  unnamed_in (more (leaf (symbol s)) (more t ts)) = entries_back t
  unnamed_in _ = roll-Value (o.Record [])

  entries_back : Tree → Value
  entries_back (node r l ts) = entries_in ts
  entries_back (leaf t) = roll-Value (o.Record [])

  entries_in : Trees → Value
  entries_in (more (leaf (name n)) (more (node r l us) ts)) = after_in n us
  entries_in (more (node r l us) (more rest ts)) = roll-Value (o.List (unnamed_in us ∷ values_back rest))
  entries_in _ = roll-Value (o.List [])

  after_in : List ℕ → Trees → Value
  after_in n (more rest (more s none)) = roll-Value (o.List (roll-Value (o.Name n) ∷ values_back rest))
  after_in n (more s (more t (more u ts))) = roll-Value (o.Record (field_of n (value_back t) ∷ fields_back u))
  after_in n _ = roll-Value (o.List [])

  values_back : Tree → List Value
  values_back (node r l (more s (more t (more u ts)))) = value_back t ∷ values_back u
  values_back _ = []

  fields_back : Tree → List ValueField
  fields_back (node r l (more s (more f (more u ts)))) = field_back f ∷ fields_back u
  fields_back _ = []

  field_back : Tree → ValueField
  field_back (node r l (more (leaf (name n)) (more s (more t ts)))) = field_of n (value_back t)
  field_back _ = field_of [] (roll-Value (o.List []))

-- these are the views of the value: what stands for it anywhere, and in braces, where others follow
record Back (views : Views) (x : Value) : Type 0 where
  whole : value_back views.whole ≡ x
  in_braces : (rest : Tree) → entries_back (views.in_braces rest) ≡ roll-Value (o.List (x ∷ values_back rest))

abbrev Returns : Value → Type 0
Returns x = Back (value_views x) x

abbrev FieldReturns : ValueField → Type 0
FieldReturns f = field_back (field_whole (field_views f)) ≡ f

abbrev Layer : Type 0
Layer = o.Value-F ((x : Value) × Returns x) ((f : ValueField) × FieldReturns f)

abbrev plain_layer : Layer → o.Value-F Value ValueField
plain_layer y = map-Value ((x : Value) × Returns x) ((f : ValueField) × FieldReturns f) Value ValueField (λ e. e.0) (λ e. e.0) y

abbrev pub firsts : {A : Type 0} {P : A → Type 0} → List ((x : A) × P x) → List A
firsts xs = map (λ e. e.0) xs

abbrev layer_views : o.Value-F Value ValueField → Views
layer_views z = value_step (map-Value Value ValueField Views FieldViews value_views field_views z)

around_back : (ts : Trees) (i : Tree) (x : Value) → unnamed_in ts ≡ x → Back (around (of unnamed_value ts) i) x
unfolding value_back
around_back ts i x e = record { whole = e; in_braces = λ rest. rw e refl }

chain_back : (xs : List ((x : Value) × Returns x)) → values_back (chain more_values (wholes (map value_views (firsts xs)))) ≡ firsts xs
unfolding value_back
chain_back [] = refl
chain_back (x ∷ xs) = ap₂ ◌∷◌ x.1.whole (chain_back xs)

field_chain_back : (fs : List ((f : ValueField) × FieldReturns f))
    → fields_back (chain more_value_fields (map field_whole (map field_views (firsts fs)))) ≡ firsts fs
unfolding value_back
field_chain_back [] = refl
field_chain_back (f ∷ fs) = ap₂ ◌∷◌ f.1 (field_chain_back fs)

entries_return : (xs : List ((x : Value) × Returns x)) → entries_back (entries_of (map value_views (firsts xs))) ≡ roll-Value (o.List (firsts xs))
unfolding value_back
entries_return [] = refl
entries_return (x ∷ xs) = rw (x.1.in_braces, chain_back xs) refl

fields_return : (fs : List ((f : ValueField) × FieldReturns f)) → entries_back (fields_of (map field_views (firsts fs))) ≡ roll-Value (o.Record (firsts fs))
unfolding value_back
fields_return [] = refl
fields_return (f ∷ fs) = rw (f.1, field_chain_back fs) refl

layer_back : (y : Layer) → Back (layer_views (plain_layer y)) (roll-Value (plain_layer y))
unfolding value_back
layer_back (o.Int (pos n)) = around_back _ _ _ refl
layer_back (o.Int (negsuc n)) = around_back _ _ _ refl
layer_back (o.Bool true) = around_back _ _ _ refl
layer_back (o.Bool false) = around_back _ _ _ refl
layer_back (o.Text bs) = around_back _ _ _ refl
layer_back (o.Name n) = record { whole = refl; in_braces = λ rest. refl }
layer_back (o.List xs) = around_back _ _ _ (entries_return xs)
layer_back (o.Record fs) = around_back _ _ _ (fields_return fs)

field_at : (n : List ℕ) (x : Value) → field_views (field_of n x) ≡ record { field_name = n; whole = value_tree x }
unfolding value_views field_views
field_at n x = fold-roll-ValueField Views FieldViews value_step field_step (record { name = n; value = x })

returns_all : (x : Value) → Returns x
unfolding value_back
returns_all = ind-Value Returns FieldReturns (λ x y is. rw (← is, views_at) (layer_back y)) (λ x y is. rw (← is, field_at, y.value.1.whole) refl)

pub value_returns : (x : Value) → value_back (value_tree x) ≡ x
value_returns x = (returns_all x).whole
