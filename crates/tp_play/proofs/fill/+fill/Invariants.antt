-- What the values so far come to is made, in their order, and there is room for the others.
use Rattle.std.proofs.Common.{◌≡◌, ◌≤◌, length, map, take, vec_capacity}
use Rattle.tp_play.specs.Fills.{filled}
use Rattle.tp_play.proofs.fill.+fill.Given as goal

abbrev pub invariant-fill_values-loop-value : goal.invariant-fill_values-loop-value
invariant-fill_values-loop-value l =
    record {
      made : l.made.items ≡ map (filled l.turns) (take l.value-index l.values);
      room : length l.values ≤ vec_capacity l.made;
    }
