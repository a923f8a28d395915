-- The lines of the first places are written.
use Rattle.std.proofs.Common.{take}
use Rattle.std.specs.List.{flat_map}
use Rattle.tp_common.specs.Watching.{Writes}
use Rattle.tp_judge.specs.RulingTexts.{place_text}
use Rattle.tp_judge.proofs.referee.writing.write_places.Given as goal

abbrev pub invariant-loop-place : goal.invariant-loop-place
invariant-loop-place g l = Writes g.W.Write.contents l.initial.writer l.writer (flat_map place_text (take l.place-index l.places))
