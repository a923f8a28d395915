-- At each turn the pass is of this floor's counts, and its own place doesn't rest.
use Rattle.std.proofs.Common.{◌≡◌}
use Rattle.crossbeam_utils.specs.Seq.{cell_view}
use Rattle.tp_floor.proofs.floor.Floor.leave_by.Given as goal

abbrev pub invariant-loop : goal.invariant-loop
invariant-loop g l = record { here : l.pass.table_id ≡ l.self.counts.table.shared.table_id; view : cell_view l.pass ≡ 0 }
