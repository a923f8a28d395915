-- The names of the first components are written.
use Rattle.std.proofs.Common.{take}
use Rattle.std.specs.List.{flat_map}
use Rattle.tp_common.specs.Watching.{Writes}
use Rattle.tpr.specs.Texts.{name_behind}
use Rattle.tpr.proofs.verdicts.writing.write_names.Given as goal

abbrev pub invariant-loop-comp : goal.invariant-loop-comp
invariant-loop-comp g l =
    Writes g.W.Write.contents l.initial.out l.out (flat_map (name_behind l.config) (take l.comp-index l.order))
