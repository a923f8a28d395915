-- The pairs so far are added.
use Rattle.std.proofs.Common.{◌≡◌, ◌++◌, take}
use Rattle.tp_judge.specs.Demands.{pairs}
use Rattle.tp_judge.specs.LinesByNumber.{lines_at}
use Rattle.tp_judge.proofs.demands.add_pairs.Given as goal

abbrev pub invariant-loop-place : goal.invariant-loop-place
invariant-loop-place l =
    l.demands.items ≡ l.initial.demands.items ++ pairs (lines_at (take l.place l.before)) (lines_at (take l.place l.after))
