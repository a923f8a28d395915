-- The texts of the first entries are written, and what is kept is the text of what it is of.
use Rattle.std.proofs.Common.{take}
use Rattle.std.specs.List.{flat_map}
use Rattle.tp_common.specs.Watching.{Writes}
use Rattle.tp_report.specs.Lines.{entry_text}
use Rattle.tp_report.specs.LineOpenings.{HaveTheirTexts}
use Rattle.tp_report.proofs.entry_texts.write_entries.Given as goal

abbrev pub invariant-loop-entry : goal.invariant-loop-entry
invariant-loop-entry g l = record {
  written :
      Writes g.W.Write.contents l.initial.out l.out (flat_map (entry_text l.telling l.test_case l.comp) (take l.entry-index l.entries));
  kept : HaveTheirTexts l.test_case.config l.kept;
}
