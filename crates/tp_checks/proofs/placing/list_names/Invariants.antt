-- The names of the fields so far are listed.
use Rattle.std.proofs.Common.{◌≡◌, map, take}
use Rattle.tp_checks.specs.{Tables.AreDistinct, Placing.field_names}
use Rattle.tp_checks.proofs.placing.list_names.Given as goal

abbrev pub invariant-loop-field : goal.invariant-loop-field
invariant-loop-field l = AreDistinct (field_names l.fields) → map (λ n. n.now) l.table.names.keys ≡ take l.field-index (field_names l.fields)
