-- What values and templates come to, an equation for each variant.
use Rattle.std.proofs.Common.{◌≡◌, ℕ, ◌+◌, ◌<◌, ◌≤◌, ℤ, pos, Bool, List, Option, length, map, get_or, refl, sym, ap, ◌∙◌, arith}
use Rattle.std.proofs.lemmas.List.Recursion.{max_bounds}
use Rattle.tp_value.specs.declared.template.PatternPart.{PatternPart}
use Rattle.tp_value.specs.declared.value.Value.{Value}
use Rattle.tp_value.specs.declared.value.Value.TheVariants as x
use Rattle.tp_value.specs.declared.template.Template.{Template}
use Rattle.tp_value.specs.declared.template.Template.TheVariants as t
use Rattle.tp_play.specs.declared.body.SendValue.{SendValue}
use Rattle.tp_play.specs.declared.body.SendValue.TheVariants as w
use Rattle.tp_play.specs.declared.body.SendValue.TheOpen as v
use Rattle.tp_play.specs.declared.body.SendValue.TheFolds.{fold-roll-SendValue}
use Rattle.tp_play.specs.declared.body.RecvTemplate.{RecvTemplate}
use Rattle.tp_play.specs.declared.body.RecvTemplate.TheVariants as r
use Rattle.tp_play.specs.declared.body.RecvTemplate.TheOpen as o
use Rattle.tp_play.specs.declared.body.RecvTemplate.TheFolds.{fold-roll-RecvTemplate}
use Rattle.tp_play.specs.Fills.{greatest, needed_step, needed, needed_template_step, needed_by_template, value_step, filled, template_step, filled_template}

module _ (turns : List ℤ) where
  pub filled_int : (z : ℤ) → filled turns (w.Int z) ≡ x.Int z
  unfolding filled
  filled_int z = ap (filled turns) (sym (w.rolls-Int z)) ∙ fold-roll-SendValue Value (value_step turns) (v.Int z)

  pub filled_bool : (b : Bool) → filled turns (w.Bool b) ≡ x.Bool b
  unfolding filled
  filled_bool b = ap (filled turns) (sym (w.rolls-Bool b)) ∙ fold-roll-SendValue Value (value_step turns) (v.Bool b)

  pub filled_text : (cs : List ℕ) → filled turns (w.Text cs) ≡ x.Text cs
  unfolding filled
  filled_text cs = ap (filled turns) (sym (w.rolls-Text cs)) ∙ fold-roll-SendValue Value (value_step turns) (v.Text cs)

  pub filled_turn : (k : ℕ) → filled turns (w.Turn k) ≡ x.Int (get_or turns k (pos 0))
  unfolding filled
  filled_turn k = ap (filled turns) (sym (w.rolls-Turn k)) ∙ fold-roll-SendValue Value (value_step turns) (v.Turn k)

  pub filled_record : (vs : List SendValue) → filled turns (w.Record vs) ≡ x.Record (map (filled turns) vs)
  unfolding filled
  filled_record vs = ap (filled turns) (sym (w.rolls-Record vs)) ∙ fold-roll-SendValue Value (value_step turns) (v.Record vs)

  pub filled_list : (vs : List SendValue) → filled turns (w.List vs) ≡ x.List (map (filled turns) vs)
  unfolding filled
  filled_list vs = ap (filled turns) (sym (w.rolls-List vs)) ∙ fold-roll-SendValue Value (value_step turns) (v.List vs)

  pub template_exact : (value : SendValue) → filled_template turns (r.Exact value) ≡ t.Exact (filled turns value)
  unfolding filled_template
  template_exact value = ap (filled_template turns) (sym (r.rolls-Exact value)) ∙ fold-roll-RecvTemplate Template (template_step turns) (o.Exact value)

  pub template_any : filled_template turns r.Any ≡ t.Any
  unfolding filled_template
  template_any = ap (filled_template turns) (sym r.rolls-Any) ∙ fold-roll-RecvTemplate Template (template_step turns) o.Any

  pub template_many : filled_template turns r.AnyOrNone ≡ t.AnyOrNone
  unfolding filled_template
  template_many = ap (filled_template turns) (sym r.rolls-AnyOrNone) ∙ fold-roll-RecvTemplate Template (template_step turns) o.AnyOrNone

  pub template_one_of : (ts : List RecvTemplate) → filled_template turns (r.OneOf ts) ≡ t.OneOf (map (filled_template turns) ts)
  unfolding filled_template
  template_one_of ts = ap (filled_template turns) (sym (r.rolls-OneOf ts)) ∙ fold-roll-RecvTemplate Template (template_step turns) (o.OneOf ts)

  pub template_none_of : (ts : List RecvTemplate) → filled_template turns (r.NoneOf ts) ≡ t.NoneOf (map (filled_template turns) ts)
  unfolding filled_template
  template_none_of ts = ap (filled_template turns) (sym (r.rolls-NoneOf ts)) ∙ fold-roll-RecvTemplate Template (template_step turns) (o.NoneOf ts)

  pub template_range : (low high : Option ℤ) → filled_template turns (r.Range low high) ≡ t.Range low high
  unfolding filled_template
  template_range low high = ap (filled_template turns) (sym (r.rolls-Range low high)) ∙ fold-roll-RecvTemplate Template (template_step turns) (o.Range low high)

  pub template_pattern : (ps : List PatternPart) → filled_template turns (r.Pattern ps) ≡ t.Pattern ps
  unfolding filled_template
  template_pattern ps = ap (filled_template turns) (sym (r.rolls-Pattern ps)) ∙ fold-roll-RecvTemplate Template (template_step turns) (o.Pattern ps)

  pub template_record : (ts : List RecvTemplate) → filled_template turns (r.Record ts) ≡ t.Record (map (filled_template turns) ts)
  unfolding filled_template
  template_record ts = ap (filled_template turns) (sym (r.rolls-Record ts)) ∙ fold-roll-RecvTemplate Template (template_step turns) (o.Record ts)

  pub template_list : (ts : List RecvTemplate) → filled_template turns (r.List ts) ≡ t.List (map (filled_template turns) ts)
  unfolding filled_template
  template_list ts = ap (filled_template turns) (sym (r.rolls-List ts)) ∙ fold-roll-RecvTemplate Template (template_step turns) (o.List ts)

-- what a value or a template needs
pub needed_turn : (k : ℕ) → needed (w.Turn k) ≡ k + 1
unfolding needed
needed_turn k = ap needed (sym (w.rolls-Turn k)) ∙ fold-roll-SendValue ℕ needed_step (v.Turn k)

pub needed_record : (vs : List SendValue) → needed (w.Record vs) ≡ greatest (map needed vs)
unfolding needed
needed_record vs = ap needed (sym (w.rolls-Record vs)) ∙ fold-roll-SendValue ℕ needed_step (v.Record vs)

pub needed_list : (vs : List SendValue) → needed (w.List vs) ≡ greatest (map needed vs)
unfolding needed
needed_list vs = ap needed (sym (w.rolls-List vs)) ∙ fold-roll-SendValue ℕ needed_step (v.List vs)

pub needed_by_exact : (value : SendValue) → needed_by_template (r.Exact value) ≡ needed value
unfolding needed_by_template
needed_by_exact value = ap needed_by_template (sym (r.rolls-Exact value)) ∙ fold-roll-RecvTemplate ℕ needed_template_step (o.Exact value)

pub needed_by_one_of : (ts : List RecvTemplate) → needed_by_template (r.OneOf ts) ≡ greatest (map needed_by_template ts)
unfolding needed_by_template
needed_by_one_of ts = ap needed_by_template (sym (r.rolls-OneOf ts)) ∙ fold-roll-RecvTemplate ℕ needed_template_step (o.OneOf ts)

pub needed_by_none_of : (ts : List RecvTemplate) → needed_by_template (r.NoneOf ts) ≡ greatest (map needed_by_template ts)
unfolding needed_by_template
needed_by_none_of ts = ap needed_by_template (sym (r.rolls-NoneOf ts)) ∙ fold-roll-RecvTemplate ℕ needed_template_step (o.NoneOf ts)

pub needed_by_record : (ts : List RecvTemplate) → needed_by_template (r.Record ts) ≡ greatest (map needed_by_template ts)
unfolding needed_by_template
needed_by_record ts = ap needed_by_template (sym (r.rolls-Record ts)) ∙ fold-roll-RecvTemplate ℕ needed_template_step (o.Record ts)

pub needed_by_list : (ts : List RecvTemplate) → needed_by_template (r.List ts) ≡ greatest (map needed_by_template ts)
unfolding needed_by_template
needed_by_list ts = ap needed_by_template (sym (r.rolls-List ts)) ∙ fold-roll-RecvTemplate ℕ needed_template_step (o.List ts)

-- what is enough for all is enough for each
pub enough_for_each : {A : Type 0} (f : A → ℕ) (xs : List A) (i : ℕ) (x : A) (n : ℕ) → greatest (map f xs) ≤ n → i < length xs → x ≡ get_or xs i x → f x ≤ n
enough_for_each f xs i x n enough below is = omega (arith, enough, max_bounds (λ ys. greatest (map f ys)) f refl (λ _ _. refl) xs i x below, ap f is)

pub ruleset values = (needed_turn, needed_record, needed_list, filled_int, filled_bool, filled_text, filled_turn, filled_record, filled_list)

pub ruleset templates = (
  needed_by_exact,
  needed_by_one_of,
  needed_by_none_of,
  needed_by_record,
  needed_by_list,
  template_exact,
  template_any,
  template_many,
  template_one_of,
  template_none_of,
  template_range,
  template_pattern,
  template_record,
  template_list,
)
