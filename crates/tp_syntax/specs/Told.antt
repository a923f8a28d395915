-- The refusal that reports each rule of a text.
use Rattle.tp_common.specs.declared.refusal.Refusal.{Refusal}
use Rattle.tp_common.specs.declared.refusal.Refusal.TheVariants as refusal
use Rattle.tp_syntax.specs.declared.script_fault.TextRule.{TextRule}
use Rattle.tp_syntax.specs.declared.script_fault.TextRule.TheVariants as text_rule

-- each rule is reported by the refusal of the same name
abbrev pub text_refusal : TextRule → Refusal
text_refusal text_rule.Syntax = refusal.Syntax
text_refusal text_rule.Limit = refusal.Limit
