-- The trees of values, an equation for each variant.
use Rattle.std.proofs.Common.{◌≡◌, ℕ, ℤ, Bool, List, [], ◌∷◌, map, refl, ap, sym, ◌∙◌}
use Rattle.tp_syntax.specs.Lexeme.{text}
use Rattle.tp_tree.specs.declared.message.Value.{Value}
use Rattle.tp_tree.specs.declared.message.Value.TheVariants as v
use Rattle.tp_tree.specs.declared.message.Value.TheOpen as o
use Rattle.tp_tree.specs.declared.message.Value.TheViews.{roll-Value}
use Rattle.tp_tree.specs.declared.message.Value.TheFolds.{map-Value, fold-roll-Value, fold_out-ValueField}
use Rattle.tp_tree.specs.declared.message.ValueField.{ValueField, out-ValueField}
use Rattle.tp_syntax.specs.Rule.{a_value, a_value_field, more_values, more_value_fields}
use Rattle.tp_syntax.specs.Reading.{Tree, leaf}
use Rattle.tp_syntax.specs.TemplateTrees.{integer_tree, bool_leaf}
use Rattle.tp_syntax.specs.ValueTrees.{Views, FieldViews, of_unnamed, of_name, of_bracket, wholes, entries_of, field_whole, fields_of, value_step, field_step, value_views, field_views, value_tree, field_tree}
use Rattle.tp_syntax.proofs.StepsOfReading.{parsing}
use Rattle.tp_syntax.proofs.PartsAfterCommas.{Separated, gathered_first}

pub views_at : (x : o.Value-F Value ValueField) → value_views (roll-Value x) ≡ value_step (map-Value Value ValueField Views FieldViews value_views field_views x)
unfolding value_views field_views
views_at x = fold-roll-Value Views FieldViews value_step field_step x

pub views_int : (z : ℤ) → value_views (v.Int z) ≡ of_unnamed (integer_tree z)
views_int z = ap value_views (sym (v.rolls-Int z)) ∙ views_at (o.Int z)

pub views_bool : (b : Bool) → value_views (v.Bool b) ≡ of_unnamed (bool_leaf b)
views_bool b = ap value_views (sym (v.rolls-Bool b)) ∙ views_at (o.Bool b)

pub views_text : (bs : List ℕ) → value_views (v.Text bs) ≡ of_unnamed (leaf (text bs))
views_text bs = ap value_views (sym (v.rolls-Text bs)) ∙ views_at (o.Text bs)

pub views_name : (n : List ℕ) → value_views (v.Name n) ≡ of_name n
views_name n = ap value_views (sym (v.rolls-Name n)) ∙ views_at (o.Name n)

pub views_list : (vs : List Value) → value_views (v.List vs) ≡ of_bracket (entries_of (map value_views vs))
views_list vs = ap value_views (sym (v.rolls-List vs)) ∙ views_at (o.List vs)

pub views_record : (fs : List ValueField) → value_views (v.Record fs) ≡ of_bracket (fields_of (map field_views fs))
views_record fs = ap value_views (sym (v.rolls-Record fs)) ∙ views_at (o.Record fs)

pub field_out : (f : ValueField) → field_views f ≡ record { field_name = (out-ValueField f).name; whole = value_tree (out-ValueField f).value }
unfolding value_views field_views
field_out f = fold_out-ValueField Views FieldViews value_step field_step f

-- the chain of the others
pub wholes_of : (vs : List Value) → wholes (map value_views vs) ≡ map value_tree vs
wholes_of [] = refl
wholes_of (x ∷ vs) = ap (λ (us : List Tree). value_tree x ∷ us) (wholes_of vs)

pub field_wholes : (fs : List ValueField) → map field_whole (map field_views fs) ≡ map field_tree fs
field_wholes [] = refl
field_wholes (f ∷ fs) = ap (λ (us : List Tree). field_tree f ∷ us) (field_wholes fs)

pub values_chain : Separated a_value more_values
values_chain = record { is = refl; silent = refl }

pub fields_chain : Separated a_value_field more_value_fields
fields_chain = record { is = refl; silent = refl }

pub ruleset value_parsing =
    (parsing, gathered_first, views_int, views_bool, views_text, views_name, views_list, views_record, field_out, wholes_of, field_wholes)
