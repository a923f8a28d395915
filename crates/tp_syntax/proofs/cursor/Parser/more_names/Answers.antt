-- One more name after a comma.
use Rattle.std.proofs.Common.{arith}
use Rattle.tp_syntax.proofs.PartsAfterCommas.{gathered_all, gathered_more}
use Rattle.tp_syntax.proofs.StepsOfReading.{parsed_ok}
use Rattle.tp_syntax.proofs.TypeTrees.{names_chain}
use Rattle.tp_syntax.proofs.cursor.Parser.more_names.Goals as goal

pub more-preserved : goal.more-preserved
more-preserved c = record {
  gathered = gathered_more names_chain c.more.invariant.gathered c.in_ok-push-2.ensures.ok c.is_symbol.ensures c.more-test.true
      c.pass_symbol.ensures.read c.in_ok-next.ensures.parses.parsed;
  shorter = omega (arith, c.in_ok-next.ensures.shorter);
}

pub returns-clause-parses : goal.returns-clause-parses
returns-clause-parses c = parsed_ok (gathered_all names_chain c.more.invariant.gathered c.is_symbol.ensures c.more-test.false)
