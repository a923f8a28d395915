-- All lines before the rest are good, and they are counted.
use Rattle.std.proofs.Common.{◌≡◌, ◌+◌, ◌≤◌, ◌++◌, List, ℕ, length}
use Rattle.std.specs.Prelude.{All}
use Rattle.tp_common.specs.Cutting.{lines_of}
use Rattle.tp_port.specs.QueueLine.{IsGood}
use Rattle.tp_port.proofs.replay.first_bad.Given as goal

abbrev pub invariant-loop-rest : goal.invariant-loop-rest
invariant-loop-rest l =
    (l.number + length l.rest ≤ length l.text)
    × ((done : List (List ℕ)) × (lines_of l.text ≡ done ++ lines_of l.rest) × All IsGood done × (length done ≡ l.number))

abbrev pub decreases-loop-rest : goal.decreases-loop-rest
decreases-loop-rest l = length l.rest
