-- The lines so far are numbered, by tables that are whole.
use Rattle.std.proofs.Common.{◌≡◌, ◌≤◌, take}
use Rattle.tp_judge.specs.Turns.{IsWhole}
use Rattle.tp_judge.proofs.BegunSectionCounts.{begun_by}
use Rattle.tp_judge.proofs.NumberedLineGrowth.{Numbered}
use Rattle.tp_judge.proofs.referee.numbering.number_lines.Given as goal

abbrev pub invariant-loop-place : goal.invariant-loop-place
invariant-loop-place l = record {
  numbered : Numbered l.trace l.place l.tables l.here l.lines.items;
  whole : IsWhole l.tables;
  begun : l.begun ≡ begun_by (take l.place l.trace);
  few : l.begun ≤ l.place;
}
