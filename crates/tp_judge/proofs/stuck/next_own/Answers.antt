-- One line more that isn't the component's own.
use Rattle.std.proofs.Common.{sym, ◌∙◌, arith}
use Rattle.std.proofs.lemmas.Bool.{false≢true}
use Rattle.std.proofs.lemmas.Option.{slice_get_within}
use Rattle.tp_judge.proofs.StuckLines.{own_more}
use Rattle.tp_judge.proofs.TraceSections.{line_read}
use Rattle.tp_judge.proofs.stuck.next_own.Goals as goal
use Rattle.tp_judge.proofs.stuck.next_own.Goals.{else-line-component-via-then-line-component+else-is_own, else-line-component-via-else-line-component}

pub loop-place-preserved : goal.loop-place-preserved
loop-place-preserved c =
    let trace = c.args.trace.now in
    let n = c.loop-place.place in
    let line = c.index-line.result.now in
    let end = slice_get_within trace.lines.items c.args.to c.requires.own.line c.requires.own.at in
    let at = line_read trace n line (omega (arith, end, c.loop-place-test.true)) c.index-line.ensures in
    own_more trace c.args.component c.args.from n line at c.loop-place.invariant (λ same own. elim c.else-line-component.branch [
      | else-line-component-via-then-line-component+else-is_own w ↦ false≢true (sym w.if-is_own.false ∙ w.is_own.ensures ∙ own)
      | else-line-component-via-else-line-component w ↦ w.if-line-component.false same
    ])
