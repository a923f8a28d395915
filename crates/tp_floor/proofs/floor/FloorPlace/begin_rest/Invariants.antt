-- At each turn the pass is of this floor's counts, and the place doesn't rest yet.
use Rattle.std.proofs.Common.{◌≡◌}
use Rattle.crossbeam_utils.specs.Seq.{cell_view}
use Rattle.std.specs.Arc.{arc_value}
use Rattle.tp_floor.proofs.floor.FloorPlace.begin_rest.Given as goal

abbrev pub invariant-loop : goal.invariant-loop
invariant-loop g l = record { here : l.self.pass.table_id ≡ (arc_value l.self.floor).counts.table.shared.table_id; view : cell_view l.self.pass ≡ 0 }
