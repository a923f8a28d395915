-- The next field or element behind its separator, and then the rest, is what was left to write.
use Rattle.std.proofs.Common.{rules, arith, subst, length, ◌<◌}
use Rattle.tp_common.specs.Watching.{Writes}
use Rattle.tp_common.proofs.WatchedWriterGrowth.{writes_nothing}
use Rattle.tp_value.specs.ValueText.{value_text}
use Rattle.tp_value.proofs.WrittenValueTexts.{elements_grow, elements_end, fields_grow, fields_end, in_braces, text_int, text_bool, text_text, text_record, text_list}
use Rattle.tp_value.proofs.writing.+write.Goals as goal

pub write_elements-loop-index-preserved : goal.write_elements-loop-index-preserved
write_elements-loop-index-preserved g t c =
    elements_grow g.W.Write.contents (λ v u. value_text c.args.types.now u v) c.args.ty c.args.values.now c.loop-index.index c.index-values-index.result
    c.loop-index-test.true c.index-values-index.is _ _ _ _ _ c.loop-index.invariant c.separate.ensures c.write_value.ensures

pub write_elements-returns : goal.write_elements-returns
write_elements-returns g t c =
    in_braces g.W.Write.contents _ _ _ _ _ _ c.write_bytes.ensures c.loop-index.invariant
    (elements_end (λ v u. value_text c.args.types.now u v) c.args.ty c.args.values.now c.loop-index.index c.loop-index-test.false) c.write_bytes-2.ensures

pub write_fields-loop-index-preserved : goal.write_fields-loop-index-preserved
write_fields-loop-index-preserved g t c =
    let named : c.loop-index.index < length c.args.declared.now = omega arith in
    let within : c.loop-index.index < length c.args.values.now = omega arith in
    fields_grow g.W.Write.contents (λ v u. value_text c.args.types.now u v) c.args.declared.now c.args.values.now c.loop-index.index c.index-declared-index.result
    c.index-values-index.result named c.index-declared-index.is within c.index-values-index.is _ _ _ _ _ _ _ c.loop-index.invariant
    c.separate.ensures (subst (Writes g.W.Write.contents _ _) c.as_slice.ensures c.write_bytes-in-loop-index.ensures) c.write_bytes-in-loop-index-2.ensures c.write_value.ensures

pub write_fields-returns : goal.write_fields-returns
write_fields-returns g t c =
    in_braces g.W.Write.contents _ _ _ _ _ _ c.write_bytes.ensures c.loop-index.invariant
    (fields_end (λ v u. value_text c.args.types.now u v) c.args.declared.now c.args.values.now c.loop-index.index (omega arith)) c.write_bytes-2.ensures

pub write_value-returns-in-Int : goal.write_value-returns-in-Int
write_value-returns-in-Int g t c = rw (c.in-Int.is, text_int) (search rules)

pub write_value-returns-in-Bool : goal.write_value-returns-in-Bool
write_value-returns-in-Bool g t c = rw (c.in-Bool.is, text_bool) (search rules)

pub write_value-returns-in-Text : goal.write_value-returns-in-Text
write_value-returns-in-Text g t c = rw (c.in-Text.is, text_text) (search rules)

pub write_value-returns-in-Some-Record : goal.write_value-returns-in-Some-Record
write_value-returns-in-Some-Record g t c =
    rw (
      c.in-Record.is,
      text_record,
      ← c.in-Some-Record.ensures,
      c.in-Some-Record.field-0-is,
      ← c.as_slice-in-Some-Record.ensures,
      ← c.as_slice-in-Some-Record-2.ensures,
    ) (search rules)

pub write_value-returns-in-Some-ListOf-definition : goal.write_value-returns-in-Some-ListOf-definition
write_value-returns-in-Some-ListOf-definition g t c =
    rw (
      c.in-List.is,
      text_list,
      ← c.in-Some-ListOf-definition.ensures,
      c.in-Some-ListOf-definition.field-0-is,
      ← c.as_slice-in-Some-ListOf-definition.ensures,
    ) (search rules)

pub write_value-returns-in-Record : goal.write_value-returns-in-Record
write_value-returns-in-Record g t c = writes_nothing g.W.Write.contents _ _ (rw (c.in-Record.is, text_record) (search rules))

pub write_value-returns-in-Record-2 : goal.write_value-returns-in-Record-2
write_value-returns-in-Record-2 g t c = writes_nothing g.W.Write.contents _ _ (rw (c.in-Record.is, text_record) (search rules))

pub write_value-returns-in-List : goal.write_value-returns-in-List
write_value-returns-in-List g t c = writes_nothing g.W.Write.contents _ _ (rw (c.in-List.is, text_list) (search rules))

pub write_value-returns-in-List-2 : goal.write_value-returns-in-List-2
write_value-returns-in-List-2 g t c = writes_nothing g.W.Write.contents _ _ (rw (c.in-List.is, text_list) (search rules))
