-- Messages and templates with their loop variables replaced by values.
use Rattle.std.specs.Prelude.{ℕ, ℤ, ◌+◌, pos, List, [], ◌∷◌, max, slice_index_or}
use Rattle.tp_value.specs.declared.value.Value.{Value}
use Rattle.tp_value.specs.declared.value.Value.TheVariants as value
use Rattle.tp_value.specs.declared.template.Template.{Template}
use Rattle.tp_value.specs.declared.template.Template.TheVariants as template
use Rattle.tp_value.specs.declared.message.MsgTemplate.{MsgTemplate}
use Rattle.tp_value.specs.declared.message.MsgTemplate.TheVariants as msg_template
use Rattle.tp_play.specs.declared.body.SendValue.{SendValue}
use Rattle.tp_play.specs.declared.body.SendValue.TheOpen as v
use Rattle.tp_play.specs.declared.body.SendValue.TheFolds.{fold-SendValue}
use Rattle.tp_play.specs.declared.body.RecvTemplate.{RecvTemplate}
use Rattle.tp_play.specs.declared.body.RecvTemplate.TheOpen as r
use Rattle.tp_play.specs.declared.body.RecvTemplate.TheFolds.{fold-RecvTemplate}
use Rattle.tp_play.specs.declared.body.RecvMsg.{RecvMsg}
use Rattle.tp_play.specs.declared.body.RecvMsg.TheVariants as recv_msg

-- the greatest of these numbers, or 0 if there are none
abbrev pub greatest : List ℕ → ℕ
greatest [] = 0
greatest (n ∷ ns) = max n (greatest ns)

-- one layer of a value
abbrev pub needed_step : v.SendValue-F ℕ → ℕ
needed_step (v.Int z) = 0
needed_step (v.Bool b) = 0
needed_step (v.Text cs) = 0
needed_step (v.Turn k) = k + 1
needed_step (v.Record ns) = greatest ns
needed_step (v.List ns) = greatest ns

-- how many loop variables must have values: one more than the greatest place of one that the value mentions
unfoldable pub needed : SendValue → ℕ
needed = fold-SendValue ℕ needed_step

-- one layer of a template
abbrev pub needed_template_step : r.RecvTemplate-F ℕ → ℕ
needed_template_step (r.Exact w) = needed w
needed_template_step r.Any = 0
needed_template_step r.AnyOrNone = 0
needed_template_step (r.OneOf ns) = greatest ns
needed_template_step (r.NoneOf ns) = greatest ns
needed_template_step (r.Range low high) = 0
needed_template_step (r.Pattern ps) = 0
needed_template_step (r.Record ns) = greatest ns
needed_template_step (r.List ns) = greatest ns

-- the same for a template
unfoldable pub needed_by_template : RecvTemplate → ℕ
needed_by_template = fold-RecvTemplate ℕ needed_template_step

-- the same for the wanted part of a receiving operation
abbrev pub needed_by_wanted : RecvMsg → ℕ
needed_by_wanted recv_msg.Any = 0
needed_by_wanted (recv_msg.Of u w) = needed_by_template w

-- one layer of a value: a loop variable is replaced by the integer that it holds, or by 0 if it has no value
abbrev pub value_step : List ℤ → v.SendValue-F Value → Value
value_step turns (v.Int z) = value.Int z
value_step turns (v.Bool b) = value.Bool b
value_step turns (v.Text cs) = value.Text cs
value_step turns (v.Turn k) = value.Int (slice_index_or turns k (pos 0))
value_step turns (v.Record vs) = value.Record vs
value_step turns (v.List vs) = value.List vs

-- the value, if the loop variables hold these integers, the outermost first
unfoldable pub filled : List ℤ → SendValue → Value
filled turns = fold-SendValue Value (value_step turns)

-- one layer of a template
abbrev pub template_step : List ℤ → r.RecvTemplate-F Template → Template
template_step turns (r.Exact w) = template.Exact (filled turns w)
template_step turns r.Any = template.Any
template_step turns r.AnyOrNone = template.AnyOrNone
template_step turns (r.OneOf ts) = template.OneOf ts
template_step turns (r.NoneOf ts) = template.NoneOf ts
template_step turns (r.Range low high) = template.Range low high
template_step turns (r.Pattern ps) = template.Pattern ps
template_step turns (r.Record ts) = template.Record ts
template_step turns (r.List ts) = template.List ts

-- the template, if the loop variables hold these integers
unfoldable pub filled_template : List ℤ → RecvTemplate → Template
filled_template turns = fold-RecvTemplate Template (template_step turns)

-- the wanted part of a receiving operation, if the loop variables hold these integers
abbrev pub filled_wanted : List ℤ → RecvMsg → MsgTemplate
filled_wanted turns recv_msg.Any = msg_template.Any
filled_wanted turns (recv_msg.Of u w) = msg_template.Of u (filled_template turns w)
