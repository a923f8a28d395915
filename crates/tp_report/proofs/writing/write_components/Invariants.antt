-- The texts of the first components are written, and what is kept is the text of what it is of.
use Rattle.std.proofs.Common.{take}
use Rattle.std.specs.List.{flat_map}
use Rattle.tp_common.specs.Watching.{Writes}
use Rattle.tp_report.specs.LineOpenings.{HaveTheirTexts}
use Rattle.tp_report.specs.Reports.{component_text}
use Rattle.tp_report.proofs.writing.write_components.Given as goal

abbrev pub invariant-loop-component : goal.invariant-loop-component
invariant-loop-component g l =
    Writes g.W.Write.contents l.initial.out l.out (flat_map (component_text l.telling l.test_case) (take l.component-index l.components))
    × HaveTheirTexts l.test_case.config l.kept
