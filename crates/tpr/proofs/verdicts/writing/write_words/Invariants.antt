-- The words of the first verdicts are written.
use Rattle.std.proofs.Common.{take}
use Rattle.std.specs.List.{flat_map}
use Rattle.tp_common.specs.Watching.{Writes}
use Rattle.tpr.specs.Texts.{word_behind}
use Rattle.tpr.proofs.verdicts.writing.write_words.Given as goal

abbrev pub invariant-loop-one : goal.invariant-loop-one
invariant-loop-one g l =
    Writes g.W.Write.contents l.initial.out l.out (flat_map (word_behind l.before) (take l.one-index l.found))
