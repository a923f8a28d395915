-- One more value or field after its comma.
use Rattle.std.proofs.Common.{refl, arith}
use Rattle.tp_syntax.specs.declared.token.Symbol.TheVariants.{Assign}
use Rattle.tp_syntax.specs.Reading.{reads_rule, reads_else, reads_more, reads_none}
use Rattle.tp_syntax.proofs.PartsAfterCommas.{gathered_all, gathered_more}
use Rattle.tp_syntax.proofs.StepsOfReading.{by_symbol, parsed_as, parsed_ok, passes, picks}
use Rattle.tp_syntax.proofs.ValueTrees.{fields_chain, value_parsing, values_chain}
use Rattle.tp_syntax.proofs.cursor.Parser.+value.Goals as goal

pub more_values-more-preserved : goal.more_values-more-preserved
more_values-more-preserved t c = record {
  gathered = gathered_more values_chain c.more.invariant.gathered c.in_ok-push-2.ensures.ok c.is_symbol.ensures c.more-test.true
      c.pass_symbol.ensures.read c.in_ok-next.ensures.parses.parsed;
  shorter = omega (arith, c.in_ok-next.ensures.shorter);
}

pub more_value_fields-more-preserved : goal.more_value_fields-more-preserved
more_value_fields-more-preserved t c = record {
  gathered = gathered_more fields_chain c.more.invariant.gathered c.in_ok-push-2.ensures.ok c.is_symbol.ensures c.more-test.true
      c.pass_symbol.ensures.read c.in_ok-next.ensures.parses.parsed;
  shorter = omega (arith, c.in_ok-next.ensures.shorter);
}

pub more_values-returns-clause-parses : goal.more_values-returns-clause-parses
more_values-returns-clause-parses t c = parsed_ok (gathered_all values_chain c.more.invariant.gathered c.is_symbol.ensures c.more-test.false)

pub more_value_fields-returns-clause-parses : goal.more_value_fields-returns-clause-parses
more_value_fields-returns-clause-parses t c = parsed_ok (gathered_all fields_chain c.more.invariant.gathered c.is_symbol.ensures c.more-test.false)

pub value_entries-returns-then-is_symbol-2-clause-parses : goal.value_entries-returns-then-is_symbol-2-clause-parses
value_entries-returns-then-is_symbol-2-clause-parses t c =
    parsed_as (grind (arith, value_parsing)) (reads_rule refl (passes c.is_symbol.ensures c.if-is_symbol.false (picks c.is_name.ensures c.if-is_name.true
    (reads_more c.in_ok-name.ensures.parses.parsed (reads_more (reads_rule refl (by_symbol Assign c.is_symbol-then-is_name.ensures c.if-is_symbol-2.true
    (reads_more c.pass_symbol-then-is_symbol-2.ensures.read (reads_more c.in_ok-value.ensures.parses.parsed
    (reads_more c.in_ok-fields.ensures.parses.parsed (reads_more c.in_ok-symbol.ensures.parses.parsed reads_none)))))) reads_none)))))

pub value_entries-returns-then-is_name-clause-parses : goal.value_entries-returns-then-is_name-clause-parses
value_entries-returns-then-is_name-clause-parses t c =
    parsed_as (grind (arith, value_parsing)) (reads_rule refl (passes c.is_symbol.ensures c.if-is_symbol.false (picks c.is_name.ensures c.if-is_name.true
    (reads_more c.in_ok-name.ensures.parses.parsed (reads_more (reads_rule refl (passes c.is_symbol-then-is_name.ensures c.if-is_symbol-2.false
    (reads_else (reads_more c.in_ok-values.ensures.parses.parsed (reads_more c.in_ok-symbol-2.ensures.parses.parsed reads_none))))) reads_none)))))
