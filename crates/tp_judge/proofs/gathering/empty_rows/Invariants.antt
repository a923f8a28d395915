-- So many rows so far, each empty.
use Rattle.std.proofs.Common.{◌≡◌, [], length}
use Rattle.std.specs.Prelude.{All}
use Rattle.tp_judge.proofs.gathering.empty_rows.Given as goal

abbrev pub invariant-loop : goal.invariant-loop
invariant-loop g l = record {
  size : length l.rows.items ≡ l.counter;
  empty : All (λ row. row.items ≡ []) l.rows.items;
}
