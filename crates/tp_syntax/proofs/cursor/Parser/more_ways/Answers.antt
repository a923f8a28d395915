-- One more direction after a `;`.
use Rattle.std.proofs.Common.{◌∙◌, arith}
use Rattle.tp_syntax.proofs.PartsAfterCommas.{grown_begins, grown_rest}
use Rattle.tp_syntax.proofs.PartsWithSemicolons.{stepped_end, stepped_last, stepped_more}
use Rattle.tp_syntax.proofs.StepsOfReading.{parsed_ok}
use Rattle.tp_syntax.proofs.TypeTrees.{ways_steps}
use Rattle.tp_syntax.proofs.cursor.Parser.more_ways.Goals as goal

pub more-preserved : goal.more-preserved
more-preserved c = record {
  begins = grown_begins _ _ _ _ c.in_ok-push-2.ensures.ok c.more.invariant.begins;
  stepped = stepped_more ways_steps c.more.invariant.stepped (grown_rest _ _ _ _ c.in_ok-push-2.ensures.ok c.more.invariant.begins) (c.is_symbol.ensures ∙ c.more-test.true)
      c.in_ok-direction.ensures.parses.parsed c.in_ok-direction.ensures.ends c.if-not-goes_on.false c.pass_symbol.ensures.read;
  shorter = omega (arith, c.in_ok-direction.ensures.shorter);
}

pub returns-then-not-goes_on-clause-parses : goal.returns-then-not-goes_on-clause-parses
returns-then-not-goes_on-clause-parses c =
    parsed_ok (stepped_last ways_steps c.more.invariant.stepped (grown_rest _ _ _ _ c.in_ok-push-2.ensures.ok c.more.invariant.begins) (c.is_symbol.ensures ∙ c.more-test.true)
    c.in_ok-direction.ensures.parses.parsed c.in_ok-direction.ensures.ends c.if-not-goes_on.true c.in_ok-symbol.ensures.parses.parsed)

pub returns-clause-parses : goal.returns-clause-parses
returns-clause-parses c = parsed_ok (stepped_end ways_steps c.more.invariant.stepped (c.is_symbol.ensures ∙ c.more-test.false) c.pass_symbol-2.ensures.read)
