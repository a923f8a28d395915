-- Each line is taken after those before it, and with the last the whole text is.
use Rattle.std.proofs.Common.{◌≡◌, ◌+◌, ◌∷◌, ◌++◌, [], ◌∙◌, ap, arith, length, subst, sym, List}
use Rattle.std.specs.Prelude.{All}
use Rattle.std.proofs.lemmas.List.Elements.{All-push}
use Rattle.tp_judge.specs.Spans.{IsSpanOf, span_text, span_texts}
use Rattle.tp_judge.proofs.LineSpansInText.{left_on}
use Rattle.std.proofs.lemmas.Bool.Decides.{nat_tests}
use Rattle.std.proofs.lemmas.List.{length-append, map_push}
use Rattle.tp_judge.specs.LineTexts.{Told}
use Rattle.tp_judge.specs.Tree.{IsTraceOf}
use Rattle.tp_judge.proofs.TraceLineGrowth.{Taken-more, first_bad_here, holds_taken, trace_taken}
use Rattle.tp_judge.proofs.referee.reading.read_trace.Goals as goal

pub returns-in-None-clause-fault : goal.returns-in-None-clause-fault
returns-in-None-clause-fault c = (
  omega arith,
  first_bad_here c.args.text.now c.loop-rest.rest.now c.first_line.result.1.now c.first_line.result.0.now
      (span_texts c.args.text.now c.loop-rest.spans.items) c.loop-rest.names c.loop-rest.place (c.len.result + 1)
      c.loop-rest.invariant.taken c.first_line.ensures.lines (omega (arith, c.len.ensures, c.loop-rest.invariant.counted))
      (rw c.in-None.is at c.in_ok-after.ensures),
)

pub loop-rest-preserved : goal.loop-rest-preserved
loop-rest-preserved c =
    let text = c.args.text.now in
    let spans = c.loop-rest.spans.items in
    let lines = span_texts text spans in
    let line = c.first_line.result.0.now in
    let more : span_texts text c.push.new.self.items ≡ lines ++ line ∷ [] =
    ap (span_texts text) c.in_ok-push.ensures.items ∙ map_push (span_text text) spans c.span_of.result
    ∙ ap (λ l. lines ++ l ∷ []) c.span_of.ensures.piece in
    record {
      fits = omega (arith, c.loop-rest.invariant.fits, c.first_line.ensures.shorter, c.in_ok-push.ensures.len);
      counted = omega (arith, ap length more, length-append lines (line ∷ []), c.in_ok-push.ensures.len, c.loop-rest.invariant.counted);
      taken = Taken-more text c.loop-rest.rest.now c.first_line.result.1.now line
          lines (span_texts text c.push.new.self.items) c.step.new.names c.loop-rest.names c.loop-rest.place c.in-Some.after
          c.first_line.ensures.lines more (rw c.in-Some.is at c.in_ok-after.ensures) c.loop-rest.invariant.taken;
      within = subst (All (IsSpanOf (length text))) (sym c.in_ok-push.ensures.items)
          (All-push (IsSpanOf (length text)) spans c.span_of.result c.loop-rest.invariant.within c.span_of.ensures.within);
      left = left_on text c.loop-rest.rest.now c.first_line.result.1.now c.loop-rest.invariant.left c.first_line.ensures.left;
    }

pub of-requires-clause-holds : goal.of-requires-clause-holds
of-requires-clause-holds c =
    holds_taken c.args.text.now c.loop-rest.rest.now (span_texts c.args.text.now c.loop-rest.spans.items) c.loop-rest.names c.loop-rest.place
    c.loop-rest.invariant.taken

pub returns-clause-trace : goal.returns-clause-trace
returns-clause-trace c =
    let none : length c.loop-rest.rest.now ≡ 0 = grind (arith, nat_tests) in
    let P : List Told → Type 0 = λ t. IsTraceOf c.args.text.now t in
    subst P (sym c.of.ensures)
    (trace_taken c.args.text.now c.loop-rest.rest.now (span_texts c.args.text.now c.loop-rest.spans.items) c.loop-rest.names c.loop-rest.place
    c.loop-rest.invariant.taken none)
