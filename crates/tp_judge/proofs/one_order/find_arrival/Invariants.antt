-- The cursor is one of this history, no further than the arrival that is looked for.
use Rattle.std.proofs.Common.{length, ◌-◌, ◌≤◌}
use Rattle.tp_judge.specs.Cursors.{IsCursorOf}
use Rattle.tp_judge.proofs.one_order.find_arrival.Given as goal

abbrev pub invariant-loop-cursor : goal.invariant-loop-cursor
invariant-loop-cursor g l = record {
  cursor : IsCursorOf (g.H.Histories.kinds l.histories l.to) l.cursor;
  most : l.cursor.came ≤ l.number;
}

abbrev pub decreases-loop-cursor : goal.decreases-loop-cursor
decreases-loop-cursor g l = length (g.H.Histories.kinds l.histories l.to) - l.cursor.place
