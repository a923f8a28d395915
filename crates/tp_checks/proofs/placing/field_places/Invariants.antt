-- Each entry so far stands at a field of its name, and each place that is taken has an entry.
use Rattle.std.proofs.Common.{◌≡◌, ℕ, true, slice_get, Some, length, map, Contains}
use Rattle.std.specs.Prelude.{vec_capacity}
use Rattle.tp_checks.specs.{Tables.AreDistinct, Placing.IsTable, Placing.field_names}
use Rattle.tp_checks.proofs.placing.field_places.Given as goal

abbrev pub invariant-loop-index : goal.invariant-loop-index
invariant-loop-index g l = record {
  as_many : length l.taken.items ≡ length l.fields;
  passed : length l.places.items ≡ l.index;
  room : vec_capacity l.places ≡ length l.entries;
  same_name : (i k : ℕ) → slice_get l.places.items i ≡ Some k → slice_get (field_names l.fields) k ≡ slice_get (map g.E.NamedField.name l.entries) i;
  each : (k : ℕ) → slice_get l.taken.items k ≡ Some true → Contains l.places.items k;
  taken : (i k : ℕ) → slice_get l.places.items i ≡ Some k → slice_get l.taken.items k ≡ Some true;
  table : AreDistinct (field_names l.fields) → IsTable l.fields (map (λ n. n.now) l.table.names.keys);
}
