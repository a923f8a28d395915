-- The trees of what is returned, and one more template or field after its comma.
use Rattle.std.proofs.Common.{refl, ap, arith}
use Rattle.tp_syntax.specs.declared.word.Word.TheVariants.{Complement}
use Rattle.tp_syntax.specs.declared.token.Symbol.TheVariants.{Assign, Minus}
use Rattle.tp_syntax.specs.Reading.{reads_rule, reads_else, reads_more, reads_none, fails_rule, fails_here, fails_later}
use Rattle.tp_syntax.specs.TemplateTrees.{Views}
use Rattle.tp_syntax.proofs.PartsAfterCommas.{gathered_all, gathered_more}
use Rattle.tp_syntax.proofs.StepsOfReading.{by_symbol, by_word, fails_word, handed, parsed_ok, parsed_as, passes, picks}
use Rattle.tp_syntax.proofs.TemplateTrees.{fields_chain, template_parsing, templates_chain}
use Rattle.tp_syntax.proofs.cursor.Parser.+template.Goals as goal

pub more_templates-more-preserved : goal.more_templates-more-preserved
more_templates-more-preserved t c = record {
  gathered = gathered_more templates_chain c.more.invariant.gathered c.in_ok-push-2.ensures.ok c.is_symbol.ensures c.more-test.true
      c.pass_symbol.ensures.read c.in_ok-next.ensures.parses.parsed;
  shorter = omega (arith, c.in_ok-next.ensures.shorter);
}

pub more_fields-more-preserved : goal.more_fields-more-preserved
more_fields-more-preserved t c = record {
  gathered = gathered_more fields_chain c.more.invariant.gathered c.in_ok-push-2.ensures.ok c.is_symbol.ensures c.more-test.true
      c.pass_symbol.ensures.read c.in_ok-next.ensures.parses.parsed;
  shorter = omega (arith, c.in_ok-next.ensures.shorter);
}

pub more_templates-returns-clause-parses : goal.more_templates-returns-clause-parses
more_templates-returns-clause-parses t c = parsed_ok (gathered_all templates_chain c.more.invariant.gathered c.is_symbol.ensures c.more-test.false)

pub more_fields-returns-clause-parses : goal.more_fields-returns-clause-parses
more_fields-returns-clause-parses t c = parsed_ok (gathered_all fields_chain c.more.invariant.gathered c.is_symbol.ensures c.more-test.false)

pub parenthesised-returns-then-is_symbol-clause-parses : goal.parenthesised-returns-then-is_symbol-clause-parses
parenthesised-returns-then-is_symbol-clause-parses t c =
    parsed_as (ap (λ (x : Views). x.inside) c.in_ok-template.ensures.whole)
    (reads_rule refl (by_symbol Minus c.is_symbol.ensures c.if-is_symbol.true (reads_more c.pass_symbol.ensures.read (reads_more c.in_ok-template.ensures.parses.parsed reads_none))))

pub entries-returns-then-is_symbol-2-clause-parses : goal.entries-returns-then-is_symbol-2-clause-parses
entries-returns-then-is_symbol-2-clause-parses t c =
    parsed_as (grind (arith, template_parsing)) (reads_rule refl (passes c.is_symbol.ensures c.if-is_symbol.false (picks c.is_name.ensures c.if-is_name.true
    (reads_more c.in_ok-name.ensures.parses.parsed (reads_more (reads_rule refl (by_symbol Assign c.is_symbol-then-is_name.ensures c.if-is_symbol-2.true
    (reads_more c.pass_symbol-then-is_symbol-2.ensures.read (reads_more c.in_ok-template.ensures.parses.parsed
    (reads_more c.in_ok-fields.ensures.parses.parsed (reads_more c.in_ok-symbol.ensures.parses.parsed reads_none)))))) reads_none)))))

pub entries-returns-then-is_name-clause-parses : goal.entries-returns-then-is_name-clause-parses
entries-returns-then-is_name-clause-parses t c =
    parsed_as (grind (arith, template_parsing)) (reads_rule refl (passes c.is_symbol.ensures c.if-is_symbol.false (picks c.is_name.ensures c.if-is_name.true
    (reads_more c.in_ok-name.ensures.parses.parsed (reads_more (reads_rule refl (passes c.is_symbol-then-is_name.ensures c.if-is_symbol-2.false
    (reads_else (reads_more c.in_ok-templates.ensures.parses.parsed (reads_more c.in_ok-symbol-2.ensures.parses.parsed reads_none))))) reads_none)))))

pub other-returns-then-is_word-3-clause-parses : goal.other-returns-then-is_word-3-clause-parses
other-returns-then-is_word-3-clause-parses t c =
    parsed_as (grind (arith, template_parsing)) (reads_rule refl (by_word Complement c.is_word-3.ensures c.if-is_word-3.true
    (reads_more c.pass_word-then-is_word-3.ensures.read (reads_more c.in_ok-symbol.ensures.parses.parsed (reads_more c.in_ok-first.ensures.parses.parsed
    (reads_more c.in_ok-templates.ensures.parses.parsed (reads_more c.in_ok-symbol-2.ensures.parses.parsed reads_none)))))))

pub other-returns-in_err-templates-clause-parses : goal.other-returns-in_err-templates-clause-parses
other-returns-in_err-templates-clause-parses t c =
    handed c.from_residual-in_err-templates.ensures.1 (fails_rule (fails_word Complement c.is_word-3.ensures c.if-is_word-3.true
    (fails_later c.pass_word-then-is_word-3.ensures.read (fails_later c.in_ok-symbol.ensures.parses.parsed
    (fails_later c.in_ok-first.ensures.parses.parsed (fails_here c.in_err-templates.ensures.parses.parsed))))))

pub other-returns-in_err-symbol-2-clause-parses : goal.other-returns-in_err-symbol-2-clause-parses
other-returns-in_err-symbol-2-clause-parses t c =
    handed c.from_residual-in_err-symbol-2.ensures.1 (fails_rule (fails_word Complement c.is_word-3.ensures c.if-is_word-3.true
    (fails_later c.pass_word-then-is_word-3.ensures.read (fails_later c.in_ok-symbol.ensures.parses.parsed
    (fails_later c.in_ok-first.ensures.parses.parsed (fails_later c.in_ok-templates.ensures.parses.parsed
    (fails_here c.in_err-symbol-2.ensures.parses.parsed)))))))
