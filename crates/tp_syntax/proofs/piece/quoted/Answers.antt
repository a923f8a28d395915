-- The next character or doubled quote is of the text; where no quote can close it, it is open.
use Rattle.std.proofs.Common.{sym, ◌∙◌, arith, refl}
use Rattle.tp_syntax.specs.Byte.{is_printable}
use Rattle.tp_syntax.proofs.TokenFaults.{refused_open, open_at, open_end}
use Rattle.tp_syntax.proofs.QuotedTextSpelling.{run_push, one_more, quote_more}
use Rattle.tp_syntax.proofs.piece.quoted.Goals as goal

pub loop-at-preserved-then-bytes-at-eq34 : goal.loop-at-preserved-then-bytes-at-eq34
loop-at-preserved-then-bytes-at-eq34 c = record {
  within = omega arith;
  spelled = rw c.in_ok-push.ensures.items
      (quote_more c.args.bytes.now c.loop-at.characters.items c.loop-at.at (omega arith) c.loop-at.invariant.spelled
      c.if-byte-eq34.true c.if-bytes-at-eq34.true);
  printable = rw c.in_ok-push.ensures.items (run_push is_printable c.loop-at.characters.items 34 c.loop-at.invariant.printable refl);
}

pub loop-at-preserved : goal.loop-at-preserved
loop-at-preserved c = record {
  within = omega arith;
  spelled = rw c.in_ok-push-2.ensures.items
      (one_more c.args.bytes.now c.loop-at.characters.items c.loop-at.at (omega arith) c.loop-at.invariant.spelled c.if-byte-eq34.false);
  printable = rw c.in_ok-push-2.ensures.items
      (run_push is_printable c.loop-at.characters.items _ c.loop-at.invariant.printable (sym c.is_printable.ensures ∙ c.if-is_printable.true));
}

pub returns-else-is_printable-clause-refused : goal.returns-else-is_printable-clause-refused
returns-else-is_printable-clause-refused c = refused_open c.args.bytes.now c.args.line c.syntax.result c.syntax.ensures
    (open_at c.args.bytes.now c.loop-at.characters.items c.loop-at.at c.loop-at.invariant.spelled c.loop-at.invariant.printable (omega arith)
    (sym c.is_printable.ensures ∙ c.if-is_printable.false))

pub returns-clause-refused : goal.returns-clause-refused
returns-clause-refused c = refused_open c.args.bytes.now c.args.line c.syntax-2.result c.syntax-2.ensures
    (open_end c.args.bytes.now c.loop-at.characters.items c.loop-at.at c.loop-at.invariant.spelled c.loop-at.invariant.printable c.loop-at-test.false)
