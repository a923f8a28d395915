-- The trees of templates, an equation for each variant.
use Rattle.std.proofs.Common.{◌≡◌, ℕ, ℤ, pos, negsuc, Bool, Option, List, [], ◌∷◌, map, refl, ap, sym, ◌∙◌}
use Rattle.tp_syntax.specs.declared.word.Word.TheVariants as w
use Rattle.tp_syntax.specs.declared.token.Symbol.TheVariants.{LeftBrace, LeftParen, Minus, Question, Star}
use Rattle.tp_syntax.specs.Lexeme.{text, word}
use Rattle.tp_tree.specs.declared.message.Template.{Template}
use Rattle.tp_tree.specs.declared.message.Template.TheVariants as v
use Rattle.tp_tree.specs.declared.message.Template.TheOpen as o
use Rattle.tp_tree.specs.declared.message.Template.TheViews.{roll-Template}
use Rattle.tp_tree.specs.declared.message.Template.TheFolds.{map-Template, fold-roll-Template, fold_out-TemplateField}
use Rattle.tp_tree.specs.declared.message.TemplateField.{TemplateField, out-TemplateField}
use Rattle.tp_syntax.specs.Rule.{a_template, a_template_field, after_minus, an_integer, in_parentheses, more_template_fields, more_templates}
use Rattle.tp_syntax.specs.Reading.{Tree, leaf, more, of, one, sym as symbol_leaf}
use Rattle.tp_syntax.specs.TemplateTrees.{IsNegative, IsPositive, Views, FieldViews, magnitude, integer_tree, number_inside, number_part, of_integer, of_name, of_other, of_bracket, wholes, in_parens_of, entries_of, complement_of, field_whole, fields_of, range_of, bool_leaf, template_step, field_step, template_views, field_views, template_tree, field_tree}
use Rattle.tp_syntax.proofs.StepsOfReading.{parsing}
use Rattle.tp_syntax.proofs.PartsAfterCommas.{Separated, gathered_first}

pub views_at : (x : o.Template-F Template TemplateField)
    → template_views (roll-Template x) ≡ template_step (map-Template Template TemplateField Views FieldViews template_views field_views x)
unfolding template_views field_views
views_at x = fold-roll-Template Views FieldViews template_step field_step x

pub views_int : (z : ℤ) → template_views (v.Int z) ≡ of_integer z
views_int z = ap template_views (sym (v.rolls-Int z)) ∙ views_at (o.Int z)

pub views_bool : (b : Bool) → template_views (v.Bool b) ≡ of_other (one (bool_leaf b))
views_bool b = ap template_views (sym (v.rolls-Bool b)) ∙ views_at (o.Bool b)

pub views_text : (bs : List ℕ) → template_views (v.Text bs) ≡ of_other (one (leaf (text bs)))
views_text bs = ap template_views (sym (v.rolls-Text bs)) ∙ views_at (o.Text bs)

pub views_name : (n : List ℕ) → template_views (v.Name n) ≡ of_name n
views_name n = ap template_views (sym (v.rolls-Name n)) ∙ views_at (o.Name n)

pub views_any : template_views v.Any ≡ of_other (one (symbol_leaf Question))
views_any = ap template_views (sym v.rolls-Any) ∙ views_at o.Any

pub views_any_or_none : template_views v.AnyOrNone ≡ of_other (one (symbol_leaf Star))
views_any_or_none = ap template_views (sym v.rolls-AnyOrNone) ∙ views_at o.AnyOrNone

pub views_one_of : (ts : List Template) → template_views (v.OneOf ts) ≡ of_bracket LeftParen (in_parens_of (map template_views ts))
views_one_of ts = ap template_views (sym (v.rolls-OneOf ts)) ∙ views_at (o.OneOf ts)

pub views_complement : (ts : List Template) → template_views (v.Complement ts) ≡ of_other (complement_of (map template_views ts))
views_complement ts = ap template_views (sym (v.rolls-Complement ts)) ∙ views_at (o.Complement ts)

pub views_range : (low high : Option ℤ) → template_views (v.Range low high) ≡ of_bracket LeftParen (range_of low high)
views_range low high = ap template_views (sym (v.rolls-Range low high)) ∙ views_at (o.Range low high)

pub views_pattern : (bs : List ℕ) → template_views (v.Pattern bs) ≡ of_other (more (leaf (word w.Pattern)) (one (leaf (text bs))))
views_pattern bs = ap template_views (sym (v.rolls-Pattern bs)) ∙ views_at (o.Pattern bs)

pub views_list : (ts : List Template) → template_views (v.List ts) ≡ of_bracket LeftBrace (entries_of (map template_views ts))
views_list ts = ap template_views (sym (v.rolls-List ts)) ∙ views_at (o.List ts)

pub views_record : (fs : List TemplateField) → template_views (v.Record fs) ≡ of_bracket LeftBrace (fields_of (map field_views fs))
views_record fs = ap template_views (sym (v.rolls-Record fs)) ∙ views_at (o.Record fs)

pub field_out : (f : TemplateField) → field_views f ≡ record { field_name = (out-TemplateField f).name; whole = template_tree (out-TemplateField f).template }
unfolding template_views field_views
field_out f = fold_out-TemplateField Views FieldViews template_step field_step f

-- the chain of the others
pub wholes_of : (ts : List Template) → wholes (map template_views ts) ≡ map template_tree ts
wholes_of [] = refl
wholes_of (t ∷ ts) = ap (λ (us : List Tree). template_tree t ∷ us) (wholes_of ts)

pub field_wholes : (fs : List TemplateField) → map field_whole (map field_views fs) ≡ map field_tree fs
field_wholes [] = refl
field_wholes (f ∷ fs) = ap (λ (us : List Tree). field_tree f ∷ us) (field_wholes fs)

-- what is inside, where it begins with a number
pub part_of_number : (z : ℤ) (x : Tree) → number_part z (number_inside z x) ≡ x
part_of_number (pos n) x = refl
part_of_number (negsuc n) x = refl

-- an integer, by its sign
pub positive_integer : (z : ℤ) → IsPositive z → integer_tree z ≡ of an_integer (one (magnitude z))
positive_integer z h = rw h.1 refl

pub negative_integer : (z : ℤ) → IsNegative z → integer_tree z ≡ of an_integer (more (symbol_leaf Minus) (one (magnitude z)))
negative_integer z h = rw h.1 refl

pub positive_inside : (z : ℤ) (x : Tree) → IsPositive z → number_inside z x ≡ of in_parentheses (more (magnitude z) (one x))
positive_inside z x h = rw h.1 refl

pub negative_inside : (z : ℤ) (x : Tree) → IsNegative z
    → number_inside z x ≡ of in_parentheses (more (symbol_leaf Minus) (one (of after_minus (more (magnitude z) (one x)))))
negative_inside z x h = rw h.1 refl

pub templates_chain : Separated a_template more_templates
templates_chain = record { is = refl; silent = refl }

pub fields_chain : Separated a_template_field more_template_fields
fields_chain = record { is = refl; silent = refl }

pub ruleset template_parsing =
    (parsing, gathered_first, views_int, views_bool, views_text, views_name, views_any, views_any_or_none, views_one_of, views_complement, views_range, views_pattern, views_list, views_record, field_out, wholes_of, field_wholes, positive_integer, negative_integer, positive_inside, negative_inside, part_of_number)
