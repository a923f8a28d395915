-- A template is told by its tree: what reads the tree back gives the template.
use Rattle.std.proofs.Common.{◌≡◌, ℕ, ℤ, pos, negsuc, suc, true, false, List, [], ◌∷◌, map, Option, Some, None, refl, ap₂}
use Rattle.tp_syntax.specs.declared.token.Symbol.{Symbol}
use Rattle.tp_syntax.specs.declared.token.Symbol.TheVariants.{LeftBrace, LeftParen, Star}
use Rattle.tp_syntax.specs.Lexeme.{name, number, text, word, symbol}
use Rattle.tp_tree.specs.declared.message.Template.{Template}
use Rattle.tp_tree.specs.declared.message.Template.TheOpen as o
use Rattle.tp_tree.specs.declared.message.Template.TheViews.{roll-Template, roll-TemplateField}
use Rattle.tp_tree.specs.declared.message.Template.TheFolds.{map-Template, fold-roll-TemplateField, ind-Template}
use Rattle.tp_tree.specs.declared.message.TemplateField.{TemplateField}
use Rattle.tp_syntax.specs.Rule.{other_template, more_templates, more_template_fields}
use Rattle.tp_syntax.specs.Reading.{Tree, leaf, node, Trees, none, more, of, chain}
use Rattle.tp_syntax.specs.TemplateTrees.{Views, FieldViews, around, wholes, field_whole, in_parens_of, entries_of, complement_of, fields_of, range_of, upper_tree, template_step, field_step, template_views, field_views, template_tree}
use Rattle.tp_syntax.proofs.TemplateTrees.{views_at}
use Rattle.tp_syntax.proofs.SameValues.{firsts, is_true, integer_in}

-- a symbol that stands alone; brackets with nothing inside; and brackets around templates
abbrev wild : Symbol → Template
wild Star = roll-Template o.AnyOrNone
wild _ = roll-Template o.Any

abbrev emptied : Symbol → Template
emptied LeftBrace = roll-Template (o.Record [])
emptied _ = roll-Template (o.OneOf [])

abbrev bracketed : Symbol → List Template → Template
bracketed LeftBrace xs = roll-Template (o.List xs)
bracketed _ xs = roll-Template (o.OneOf xs)

abbrev field_of : List ℕ → Template → TemplateField
field_of n x = roll-TemplateField (record { name = n; template = x })

abbrev upper_back : Tree → Option ℤ
upper_back (node r l (more (node q k us) ts)) = Some (integer_in us)
upper_back _ = None

mutual
  pub template_back : Tree → Template
  template_back (node r l ts) = below ts
  template_back (leaf t) = roll-Template o.Any

  below : Trees → Template
  below none = roll-Template (o.Complement [])
  below (more (node r l us) ts) = below us
  below (more (leaf (name n)) ts) = roll-Template (o.Name n)
  below (more (leaf (number n)) ts) = roll-Template (o.Int (pos n))
  below (more (leaf (text bs)) ts) = roll-Template (o.Text bs)
  below (more (leaf (word x)) none) = roll-Template (o.Bool (is_true x))
  below (more (leaf (word x)) (more (leaf (text bs)) ts)) = roll-Template (o.Pattern bs)
  below (more (leaf (word x)) (more s (more t (more u ts)))) = roll-Template (o.Complement (template_back t ∷ templates_back u))
  below (more (leaf (symbol s)) none) = wild s
  below (more (leaf (symbol s)) (more t ts)) = inside_back s t
  below _ = roll-Template o.Any

  inside_back : Symbol → Tree → Template
  inside_back s (node r l ts) = inside s ts
  inside_back s (leaf (number (suc n))) = roll-Template (o.Int (negsuc n))
  inside_back s (leaf t) = emptied s

  inside : Symbol → Trees → Template
  inside s (more (node r l us) (more rest ts)) = bracketed s (below us ∷ templates_back rest)
  inside s (more (leaf (name n)) (more (node r l us) ts)) = named n us
  inside s (more (leaf (number n)) (more (node r l us) ts)) = numbered (pos n) us
  inside s (more (leaf (symbol m)) (more (node r l us) ts)) = after_minus us
  inside s _ = roll-Template (o.List [])

  named : List ℕ → Trees → Template
  named n (more rest (more s none)) = roll-Template (o.List (roll-Template (o.Name n) ∷ templates_back rest))
  named n (more s (more t (more u ts))) = roll-Template (o.Record (field_of n (template_back t) ∷ fields_back u))
  named n _ = roll-Template o.Any

  numbered : ℤ → Trees → Template
  numbered z (more rest (more s none)) = roll-Template (o.OneOf (roll-Template (o.Int z) ∷ templates_back rest))
  numbered z (more s (more u (more t ts))) = roll-Template (o.Range (Some z) (upper_back u))
  numbered z _ = roll-Template o.Any

  after_minus : Trees → Template
  after_minus (more (leaf (number (suc n))) (more (node r l us) ts)) = numbered (negsuc n) us
  after_minus (more (leaf (word x)) (more s (more u ts))) = roll-Template (o.Range None (upper_back u))
  after_minus _ = roll-Template o.Any

  templates_back : Tree → List Template
  templates_back (node r l (more s (more t (more u ts)))) = template_back t ∷ templates_back u
  templates_back _ = []

  fields_back : Tree → List TemplateField
  fields_back (node r l (more s (more f (more u ts)))) = field_back f ∷ fields_back u
  fields_back _ = []

  field_back : Tree → TemplateField
  field_back (node r l (more (leaf (name n)) (more s (more t ts)))) = field_of n (template_back t)
  field_back _ = field_of [] (roll-Template o.Any)

-- these are the views of the template: what stands for it anywhere, and in brackets, where others follow
record Back (views : Views) (x : Template) : Type 0 where
  whole : template_back views.whole ≡ x
  in_braces : (rest : Tree) → inside_back LeftBrace (views.in_braces rest) ≡ roll-Template (o.List (x ∷ templates_back rest))
  in_parens : (rest : Tree) → inside_back LeftParen (views.in_parens rest) ≡ roll-Template (o.OneOf (x ∷ templates_back rest))

abbrev Returns : Template → Type 0
Returns x = Back (template_views x) x

abbrev FieldReturns : TemplateField → Type 0
FieldReturns f = field_back (field_whole (field_views f)) ≡ f

abbrev Layer : Type 0
Layer = o.Template-F ((x : Template) × Returns x) ((f : TemplateField) × FieldReturns f)

abbrev plain_layer : Layer → o.Template-F Template TemplateField
plain_layer y = map-Template ((x : Template) × Returns x) ((f : TemplateField) × FieldReturns f) Template TemplateField (λ e. e.0) (λ e. e.0) y

abbrev layer_views : o.Template-F Template TemplateField → Views
layer_views z = template_step (map-Template Template TemplateField Views FieldViews template_views field_views z)

upper_returns : (high : Option ℤ) → upper_back (upper_tree high) ≡ high
upper_returns None = refl
upper_returns (Some (pos n)) = refl
upper_returns (Some (negsuc n)) = refl

around_back : (ts : Trees) (i : Tree) (x : Template) → below ts ≡ x → Back (around (of other_template ts) i) x
unfolding template_back
around_back ts i x e = record { whole = e; in_braces = λ rest. rw e refl; in_parens = λ rest. rw e refl }

chain_back : (xs : List ((x : Template) × Returns x)) → templates_back (chain more_templates (wholes (map template_views (firsts xs)))) ≡ firsts xs
unfolding template_back
chain_back [] = refl
chain_back (x ∷ xs) = ap₂ ◌∷◌ x.1.whole (chain_back xs)

field_chain_back : (fs : List ((f : TemplateField) × FieldReturns f))
    → fields_back (chain more_template_fields (map field_whole (map field_views (firsts fs)))) ≡ firsts fs
unfolding template_back
field_chain_back [] = refl
field_chain_back (f ∷ fs) = ap₂ ◌∷◌ f.1 (field_chain_back fs)

parens_return : (xs : List ((x : Template) × Returns x))
    → inside_back LeftParen (in_parens_of (map template_views (firsts xs))) ≡ roll-Template (o.OneOf (firsts xs))
unfolding template_back
parens_return [] = refl
parens_return (x ∷ xs) = rw (x.1.in_parens, chain_back xs) refl

entries_return : (xs : List ((x : Template) × Returns x))
    → inside_back LeftBrace (entries_of (map template_views (firsts xs))) ≡ roll-Template (o.List (firsts xs))
unfolding template_back
entries_return [] = refl
entries_return (x ∷ xs) = rw (x.1.in_braces, chain_back xs) refl

complement_return : (xs : List ((x : Template) × Returns x))
    → below (complement_of (map template_views (firsts xs))) ≡ roll-Template (o.Complement (firsts xs))
unfolding template_back
complement_return [] = refl
complement_return (x ∷ xs) = rw (x.1.whole, chain_back xs) refl

fields_return : (fs : List ((f : TemplateField) × FieldReturns f))
    → inside_back LeftBrace (fields_of (map field_views (firsts fs))) ≡ roll-Template (o.Record (firsts fs))
unfolding template_back
fields_return [] = refl
fields_return (f ∷ fs) = rw (f.1, field_chain_back fs) refl

range_return : (low high : Option ℤ) → inside_back LeftParen (range_of low high) ≡ roll-Template (o.Range low high)
unfolding template_back
range_return None high = rw upper_returns refl
range_return (Some (pos n)) high = rw upper_returns refl
range_return (Some (negsuc n)) high = rw upper_returns refl

layer_back : (y : Layer) → Back (layer_views (plain_layer y)) (roll-Template (plain_layer y))
unfolding template_back
layer_back (o.Int (pos n)) = record { whole = refl; in_braces = λ rest. refl; in_parens = λ rest. refl }
layer_back (o.Int (negsuc n)) = record { whole = refl; in_braces = λ rest. refl; in_parens = λ rest. refl }
layer_back (o.Bool true) = around_back _ _ _ refl
layer_back (o.Bool false) = around_back _ _ _ refl
layer_back (o.Text bs) = around_back _ _ _ refl
layer_back (o.Name n) = record { whole = refl; in_braces = λ rest. refl; in_parens = λ rest. refl }
layer_back o.Any = around_back _ _ _ refl
layer_back o.AnyOrNone = around_back _ _ _ refl
layer_back (o.OneOf xs) = around_back _ _ _ (parens_return xs)
layer_back (o.Complement xs) = around_back _ _ _ (complement_return xs)
layer_back (o.Range low high) = around_back _ _ _ (range_return low high)
layer_back (o.Pattern bs) = around_back _ _ _ refl
layer_back (o.List xs) = around_back _ _ _ (entries_return xs)
layer_back (o.Record fs) = around_back _ _ _ (fields_return fs)

field_at : (n : List ℕ) (x : Template) → field_views (field_of n x) ≡ record { field_name = n; whole = template_tree x }
unfolding template_views field_views
field_at n x = fold-roll-TemplateField Views FieldViews template_step field_step (record { name = n; template = x })

returns_all : (x : Template) → Returns x
unfolding template_back
returns_all = ind-Template Returns FieldReturns (λ x y is. rw (← is, views_at) (layer_back y)) (λ x y is. rw (← is, field_at, y.template.1.whole) refl)

pub template_returns : (x : Template) → template_back (template_tree x) ≡ x
template_returns x = (returns_all x).whole
