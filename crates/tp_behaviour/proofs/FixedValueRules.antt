-- Values and templates in which no loop variable stands, a rule for each variant.
use Rattle.std.proofs.Common.{◌≡◌, ◌∙◌, ℕ, ◌≤◌, ℤ, Bool, List, [], ◌∷◌, Option, map, refl, sym, ap, arith}
use Rattle.std.specs.Prelude.{All}
use Rattle.std.proofs.lemmas.List.Elements.{All-head, All-tail}
use Rattle.tp_value.specs.declared.template.PatternPart.{PatternPart}
use Rattle.tp_value.specs.declared.value.Value.TheVariants as x
use Rattle.tp_value.specs.declared.template.Template.TheVariants as t
use Rattle.tp_play.specs.declared.body.SendValue.{SendValue}
use Rattle.tp_play.specs.declared.body.SendValue.TheVariants as w
use Rattle.tp_play.specs.declared.body.SendValue.TheOpen as v
use Rattle.tp_play.specs.declared.body.SendValue.TheFolds.{fold-roll-SendValue}
use Rattle.tp_play.specs.declared.body.RecvTemplate.{RecvTemplate}
use Rattle.tp_play.specs.declared.body.RecvTemplate.TheVariants as r
use Rattle.tp_play.specs.declared.body.RecvTemplate.TheOpen as p
use Rattle.tp_play.specs.declared.body.RecvTemplate.TheFolds.{fold-roll-RecvTemplate}
use Rattle.tp_play.specs.Fills.{greatest, needed_step, needed, needed_template_step, needed_by_template, filled, filled_template}
use Rattle.tp_play.proofs.FilledValueEquations.{filled_bool, filled_int, filled_list, filled_record, filled_text, needed_by_exact, needed_by_list, needed_by_none_of, needed_by_one_of, needed_by_record, needed_list, needed_record, template_any, template_exact, template_list, template_many, template_none_of, template_one_of, template_pattern, template_range, template_record}
use Rattle.tp_behaviour.specs.Fixed.{IsFixed, IsFixedValue}

needed_int : (z : ℤ) → needed (w.Int z) ≡ 0
unfolding needed
needed_int z = ap needed (sym (w.rolls-Int z)) ∙ fold-roll-SendValue ℕ needed_step (v.Int z)

needed_bool : (b : Bool) → needed (w.Bool b) ≡ 0
unfolding needed
needed_bool b = ap needed (sym (w.rolls-Bool b)) ∙ fold-roll-SendValue ℕ needed_step (v.Bool b)

needed_text : (cs : List ℕ) → needed (w.Text cs) ≡ 0
unfolding needed
needed_text cs = ap needed (sym (w.rolls-Text cs)) ∙ fold-roll-SendValue ℕ needed_step (v.Text cs)

needed_by_any : needed_by_template r.Any ≡ 0
unfolding needed_by_template
needed_by_any = ap needed_by_template (sym r.rolls-Any) ∙ fold-roll-RecvTemplate ℕ needed_template_step p.Any

needed_by_many : needed_by_template r.AnyOrNone ≡ 0
unfolding needed_by_template
needed_by_many = ap needed_by_template (sym r.rolls-AnyOrNone) ∙ fold-roll-RecvTemplate ℕ needed_template_step p.AnyOrNone

needed_by_range : (low high : Option ℤ) → needed_by_template (r.Range low high) ≡ 0
unfolding needed_by_template
needed_by_range low high = ap needed_by_template (sym (r.rolls-Range low high)) ∙ fold-roll-RecvTemplate ℕ needed_template_step (p.Range low high)

needed_by_pattern : (ps : List PatternPart) → needed_by_template (r.Pattern ps) ≡ 0
unfolding needed_by_template
needed_by_pattern ps = ap needed_by_template (sym (r.rolls-Pattern ps)) ∙ fold-roll-RecvTemplate ℕ needed_template_step (p.Pattern ps)

-- what each of a list needs and comes to, the list does
module _ {X Y : Type 0} (needs : X → ℕ) (fill : List ℤ → X → Y) where
  abbrev Same : X → Type 0
  Same x = (needs x ≤ 0) × ((turns others : List ℤ) → fill turns x ≡ fill others x)

  none_needed : (xs : List X) → All Same xs → greatest (map needs xs) ≤ 0
  none_needed [] h = omega arith
  none_needed (x ∷ xs) h = omega (arith, (All-head Same x xs h).0, none_needed xs (All-tail Same x xs h))

  all_same : (turns others : List ℤ) (xs : List X) → All Same xs → map (fill turns) xs ≡ map (fill others) xs
  all_same turns others [] h = refl
  all_same turns others (x ∷ xs) h = λ i. (All-head Same x xs h).1 turns others i ∷ all_same turns others xs (All-tail Same x xs h) i

-- the values
pub fixed_int : (z : ℤ) → IsFixedValue (w.Int z)
fixed_int z = (omega (arith, needed_int z), λ turns others. filled_int turns z ∙ sym (filled_int others z))

pub fixed_bool : (b : Bool) → IsFixedValue (w.Bool b)
fixed_bool b = (omega (arith, needed_bool b), λ turns others. filled_bool turns b ∙ sym (filled_bool others b))

pub fixed_text : (cs : List ℕ) → IsFixedValue (w.Text cs)
fixed_text cs = (omega (arith, needed_text cs), λ turns others. filled_text turns cs ∙ sym (filled_text others cs))

pub fixed_record : (vs : List SendValue) → All IsFixedValue vs → IsFixedValue (w.Record vs)
fixed_record vs h = (
  omega (arith, needed_record vs, none_needed needed filled vs h),
  λ turns others. filled_record turns vs ∙ ap x.Record (all_same needed filled turns others vs h) ∙ sym (filled_record others vs),
)

pub fixed_list : (vs : List SendValue) → All IsFixedValue vs → IsFixedValue (w.List vs)
fixed_list vs h = (
  omega (arith, needed_list vs, none_needed needed filled vs h),
  λ turns others. filled_list turns vs ∙ ap x.List (all_same needed filled turns others vs h) ∙ sym (filled_list others vs),
)

-- the templates
pub fixed_exact : (y : SendValue) → IsFixedValue y → IsFixed (r.Exact y)
fixed_exact y h = (
  omega (arith, needed_by_exact y, h.0),
  λ turns others. template_exact turns y ∙ ap t.Exact (h.1 turns others) ∙ sym (template_exact others y),
)

pub fixed_any : IsFixed r.Any
fixed_any = (omega (arith, needed_by_any), λ turns others. template_any turns ∙ sym (template_any others))

pub fixed_many : IsFixed r.AnyOrNone
fixed_many = (omega (arith, needed_by_many), λ turns others. template_many turns ∙ sym (template_many others))

pub fixed_one_of : (ts : List RecvTemplate) → All IsFixed ts → IsFixed (r.OneOf ts)
fixed_one_of ts h = (
  omega (arith, needed_by_one_of ts, none_needed needed_by_template filled_template ts h),
  λ turns others. template_one_of turns ts ∙ ap t.OneOf (all_same needed_by_template filled_template turns others ts h) ∙ sym (template_one_of others ts),
)

pub fixed_none_of : (ts : List RecvTemplate) → All IsFixed ts → IsFixed (r.NoneOf ts)
fixed_none_of ts h = (
  omega (arith, needed_by_none_of ts, none_needed needed_by_template filled_template ts h),
  λ turns others. template_none_of turns ts ∙ ap t.NoneOf (all_same needed_by_template filled_template turns others ts h) ∙ sym (template_none_of others ts),
)

pub fixed_range : (low high : Option ℤ) → IsFixed (r.Range low high)
fixed_range low high = (omega (arith, needed_by_range low high), λ turns others. template_range turns low high ∙ sym (template_range others low high))

pub fixed_pattern : (ps : List PatternPart) → IsFixed (r.Pattern ps)
fixed_pattern ps = (omega (arith, needed_by_pattern ps), λ turns others. template_pattern turns ps ∙ sym (template_pattern others ps))

pub fixed_members : (ts : List RecvTemplate) → All IsFixed ts → IsFixed (r.Record ts)
fixed_members ts h = (
  omega (arith, needed_by_record ts, none_needed needed_by_template filled_template ts h),
  λ turns others. template_record turns ts ∙ ap t.Record (all_same needed_by_template filled_template turns others ts h) ∙ sym (template_record others ts),
)

pub fixed_elements : (ts : List RecvTemplate) → All IsFixed ts → IsFixed (r.List ts)
fixed_elements ts h = (
  omega (arith, needed_by_list ts, none_needed needed_by_template filled_template ts h),
  λ turns others. template_list turns ts ∙ ap t.List (all_same needed_by_template filled_template turns others ts h) ∙ sym (template_list others ts),
)
