-- The lines of the definitions of what a text stands for, and of the rules that it breaks, as lists for the tactics.
use Rattle.std.proofs.Common.{◌≡◌, List, ℕ, ℤ, FitsSigned, w64, subst}
use Rattle.tp_value.specs.declared.types.{Ty.Ty, Types.Types}
use Rattle.tp_value.specs.declared.types.Ty.TheVariants as ty
use Rattle.tp_tree.specs.declared.message.{TypeName.TypeName, Value.Value, Template.Template}
use Rattle.tp_tree.specs.declared.message.TypeName.TheVariants as type_name
use Rattle.tp_tree.specs.declared.message.Value.TheVariants as v
use Rattle.tp_tree.specs.declared.message.Template.TheVariants as t
use Rattle.tp_play.specs.declared.body.SendValue.TheVariants as w
use Rattle.tp_play.specs.declared.body.RecvTemplate.TheVariants as r
use Rattle.tp_play.specs.declared.body.VariableType.TheVariants as kind
use Rattle.tp_checks.specs.{Named.IsPlace, Scoping.IsType, Scoping.Visible, Messages.IsTemplate, Messages.IsValue, Bodies.IsVariableType}
use Rattle.tp_checks.specs.Scoping as s
use Rattle.tp_checks.specs.Messages as m
use Rattle.tp_checks.specs.Bodies as b
use Rattle.tp_checks.specs.BrokenValues as bv
use Rattle.tp_checks.specs.BrokenTemplates as bt
use Rattle.tp_checks.specs.BrokenOperations as bo
use Rattle.tp_checks.specs.BrokenBodies as bb
use Rattle.tp_checks.proofs.{NameLookupsAreUnique.no_number, ListPrefixGrowth.pushed, ListPrefixGrowth.there}

-- the tactics don't match the two lines of a number with 64 bits, so these say what is equal
module _ (types : Types) (turns : List (List ℕ)) (u : Ty) where
  pub int : (x : Value) (z : ℤ) → x ≡ v.Int z → u ≡ ty.Integer → FitsSigned w64 z → IsValue types turns u x (w.Int z)
  int x z e f h = rw (e, f) (m.int z h)

  pub int_template : (x : Template) (z : ℤ) → x ≡ t.Int z → u ≡ ty.Integer → FitsSigned w64 z → IsTemplate types turns u x (r.Exact (w.Int z))
  int_template x z e f h = rw (e, f) (m.int_template z h)

-- nor do they find that a name is no type's
pub held_component : (scope : Visible) (x : TypeName) (n : List ℕ) (k : ℕ) → x ≡ type_name.Named n → ((u : Ty) → IsType scope.types x u → ⊥)
    → IsPlace scope.component_types n k → IsVariableType scope x kind.Component
held_component scope x n k e none p = rw e (b.component n k (no_number scope.types n (subst (λ y. (u : Ty) → IsType scope.types y u → ⊥) e none)) p)

pub ruleset names = (s.integer, s.boolean, s.charstring, s.type_named, s.mtc, s.itself, s.component_named)

-- what a value stands for
pub ruleset value_lines = (int, m.bool, m.text, m.turn, m.elements, m.places, m.fields, m.no_element, m.one_element_more, m.no_field, m.one_field_more)

-- the rules that it breaks
pub ruleset broken_value_lines = (bv.ValueBreaks.no_integer, bv.no_boolean, bv.text, bv.name, bv.no_braces, bv.elements, bv.places, bv.no_record, bv.fields, bv.element, bv.count, bv.place, bv.names, bv.entry)

pub ruleset values = (value_lines, pushed, broken_value_lines, there)

-- what a template stands for
pub ruleset template_lines = (int_template, m.bool_template, m.text_template, m.turn_template, m.any, m.one_of, m.none_of, m.range, m.pattern, m.element_templates, m.place_templates, m.field_templates)

pub ruleset template_list_lines = (m.no_member, m.one_member_more, m.no_element_template, m.one_element_template_more, m.many, m.single, m.no_field_template, m.one_field_template_more)

-- the rules that it breaks
pub ruleset broken_template_lines = (bt.no_range, bt.disordered, bt.no_integer, bt.no_boolean, bt.text, bt.name, bt.any_or_none, bt.one_of, bt.none_of, bt.range, bt.no_pattern, bt.list, bt.record_of_names)

pub ruleset broken_template_list_lines = (bt.member, bt.no_braces, bt.elements, bt.places, bt.no_record, bt.fields, bt.element, bt.count, bt.place, bt.names, bt.entry)

pub ruleset templates = (template_lines, template_list_lines, pushed, broken_template_lines, broken_template_list_lines, there)

-- what the parts of an operation stand for
pub ruleset operation_lines = (b.written, b.counter, b.held, b.nobody, b.all, b.reference, b.variable, b.every_message, b.matching, b.whoever, b.this_one)

pub ruleset target_lines = (b.no_target, b.target, b.no_sender_target, b.sender_target)

pub ruleset verdict_lines = (b.no_verdict, b.pass, b.inconc, b.fail)

-- the rules that they break
pub ruleset broken_name_lines = (bo.turn, bo.parameter, bo.component, bo.unknown, bo.no_variable, bo.holds_component, bo.no_variable_either, bo.holds_message)

pub ruleset broken_send_lines = (bo.no_type, bo.not_sendable, bo.value, bo.written, bo.counter, bo.no_message, bo.held, bo.to_message, bo.to_nobody, bo.no_port, bo.sent, bo.receiver)

pub ruleset broken_receive_lines = (bo.no_such_type, bo.not_receivable, bo.template, bo.from_variable, bo.from_nobody, bo.holds_no_message, bo.holds_other, bo.holds_no_component, bo.at_no_port, bo.wanted, bo.from, bo.value_target, bo.sender_target)

pub ruleset operations = (operation_lines, target_lines, verdict_lines, broken_name_lines, broken_send_lines, broken_receive_lines)

-- what a statement stands for
pub ruleset statement_lines = (b.send, b.receive, b.control, b.all_ports, b.set_verdict, b.alt, b.alt_else, b.no_statement, b.one_statement_more, b.branch, b.nothing, b.block, b.no_branch, b.one_branch_more)

-- the rules that it breaks
pub ruleset broken_statement_lines = (bb.send, bb.receive, bb.control_in_sut, bb.control_of_no_port, bb.all_ports_in_sut, bb.verdict_in_sut, bb.error_verdict, bb.branches, bb.otherwise, bb.old_name, bb.counted)

pub ruleset broken_part_lines = (bb.in_statement, bb.operation, bb.behind, bb.in_block, bb.in_branch)

pub ruleset statements = (statement_lines, pushed, broken_statement_lines, broken_part_lines, there)

pub ruleset variables = (b.message, held_component)

pub ruleset plain = (bv.no_charstring, bv.unprintable, bv.ValueNameBreaks.no_integer, bv.variable, bv.unknown)
