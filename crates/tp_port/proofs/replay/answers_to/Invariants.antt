-- The engine has come so far that the answers so far, and then those to the rest, are the answers to the whole text.
use Rattle.std.proofs.Common.{◌-◌, ◌≤◌, length}
use Rattle.std.specs.Prelude.{string_bytes}
use Rattle.tp_port.specs.Carried.{HasReached, HasCounted}
use Rattle.tp_port.specs.Replay.{Progress}
use Rattle.tp_port.proofs.LineAnswersFromFront.{Goes}
use Rattle.tp_port.proofs.replay.answers_to.Given as goal

abbrev pub invariant-loop-rest : goal.invariant-loop-rest
invariant-loop-rest l =
    record {
      fits : length l.rest ≤ length l.text;
      within : HasCounted l.engine (length l.text - length l.rest);
      goes : (s : Progress) × HasReached l.engine s × Goes l.text l.rest s (string_bytes l.engine.answers);
    }

abbrev pub decreases-loop-rest : goal.decreases-loop-rest
decreases-loop-rest l = length l.rest
