-- Each line is taken in its turn.
use Rattle.std.proofs.Common.{arith, refl, sym, ◌∙◌}
use Rattle.tp_judge.proofs.BegunSectionCounts.{begun_none, begun_one, begun_there}
use Rattle.tp_judge.proofs.NumberedLineGrowth.{Numbered-first, Numbered-more, all_numbered, known_here}
use Rattle.tp_judge.proofs.referee.numbering.number_lines.Goals as goal
use Rattle.tp_judge.proofs.referee.numbering.number_lines.Goals.{then-is_beginning, else-is_beginning}

pub loop-place-init : goal.loop-place-init
loop-place-init c = record {
  numbered = Numbered-first c.args.trace.now c.args.tables.now 0 c.in_ok-lines.lines.items c.line_count.ensures.trace c.requires.components c.requires.size c.in_ok-lines.ensures.items;
  whole = c.requires.whole;
  begun = refl;
  few = omega arith;
}

pub step-requires-clause-here : goal.step-requires-clause-here
step-requires-clause-here c =
    known_here c.args.trace.now c.loop-place.place c.loop-place.tables c.loop-place.here c.loop-place.lines.items _ c.line-line.ensures c.loop-place.invariant.numbered

pub step-requires-clause-begun : goal.step-requires-clause-begun
step-requires-clause-begun c =
    begun_there c.loop-place.tables c.args.trace.now c.loop-place.place c.loop-place.begun _ c.line-line.ensures c.loop-place.invariant.begun
    c.loop-place.invariant.numbered.sections

pub loop-place-preserved : goal.loop-place-preserved
loop-place-preserved c = record {
  numbered =
      Numbered-more c.args.trace.now c.loop-place.place c.loop-place.tables c.step.new.tables c.loop-place.here c.in_ok-here.here
      c.loop-place.lines.items c.step.new.lines.items c.line_count.ensures.trace c.in_ok-here.ensures.grows c.loop-place.invariant.numbered
      _ c.line-line.ensures c.in_ok-here.ensures.turn;
  whole = c.in_ok-here.ensures.whole;
  begun = elim c.if-is_beginning.branch [
    | then-is_beginning w ↦
        begun_one c.args.trace.now c.loop-place.place c.loop-place.begun c.if-is_beginning.begun _ c.line-line.ensures
        c.loop-place.invariant.begun (sym c.is_beginning.ensures ∙ w.if-is_beginning.true) w.begun-is
    | else-is_beginning w ↦
        begun_none c.args.trace.now c.loop-place.place c.loop-place.begun c.if-is_beginning.begun _ c.line-line.ensures
        c.loop-place.invariant.begun (sym c.is_beginning.ensures ∙ w.if-is_beginning.false) w.begun-is
  ];
  few = elim c.if-is_beginning.branch [
    | then-is_beginning w ↦ let is = w.begun-is in omega arith
    | else-is_beginning w ↦ let is = w.begun-is in omega arith
  ];
}

pub returns-clause-lines : goal.returns-clause-lines
returns-clause-lines c =
    all_numbered c.args.trace.now c.loop-place.place c.loop-place.tables c.loop-place.here c.loop-place.lines.items (omega arith)
    c.loop-place.invariant.numbered
