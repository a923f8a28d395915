-- What writes the rest writes the whole.
use Rattle.std.proofs.Common.{length}
use Rattle.tp_common.specs.declared.watched.Watched.{Watched}
use Rattle.tp_common.specs.Watching.{Writes}
use Rattle.tp_value.specs.ValueText.{escaped}
use Rattle.tp_value.proofs.writing.write_text.Given as goal

abbrev pub invariant-loop-front : goal.invariant-loop-front
invariant-loop-front g l =
    (done : Watched _) → Writes g.W.Write.contents l.out done (escaped l.rest) → Writes g.W.Write.contents l.initial.out done (escaped l.text)

abbrev pub decreases-loop-front : goal.decreases-loop-front
decreases-loop-front g l = length l.rest
