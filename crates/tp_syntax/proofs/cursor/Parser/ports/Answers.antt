use Rattle.std.proofs.Common.{◌∙◌, arith}
use Rattle.tp_syntax.proofs.PartsWithSemicolons.{stepped_end, stepped_last, stepped_more}
use Rattle.tp_syntax.proofs.StepsOfReading.{parsed_ok}
use Rattle.tp_syntax.proofs.TypeTrees.{ports_steps}
use Rattle.tp_syntax.proofs.cursor.Parser.ports.Goals as goal

pub more-preserved : goal.more-preserved
more-preserved c = record {
  stepped = stepped_more ports_steps c.more.invariant.stepped c.in_ok-push.ensures.ok (c.is_symbol.ensures ∙ c.more-test.true)
      c.in_ok-port.ensures.parses.parsed c.in_ok-port.ensures.ends c.if-not-goes_on.false c.pass_symbol.ensures.read;
  shorter = omega (arith, c.in_ok-port.ensures.shorter);
}

pub returns-then-not-goes_on-clause-parses : goal.returns-then-not-goes_on-clause-parses
returns-then-not-goes_on-clause-parses c =
    parsed_ok (stepped_last ports_steps c.more.invariant.stepped c.in_ok-push.ensures.ok (c.is_symbol.ensures ∙ c.more-test.true)
    c.in_ok-port.ensures.parses.parsed c.in_ok-port.ensures.ends c.if-not-goes_on.true c.in_ok-symbol.ensures.parses.parsed)

pub returns-clause-parses : goal.returns-clause-parses
returns-clause-parses c = parsed_ok (stepped_end ports_steps c.more.invariant.stepped (c.is_symbol.ensures ∙ c.more-test.false) c.pass_symbol-2.ensures.read)
