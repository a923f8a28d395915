-- The fields so far are made, in their order.
use Rattle.std.proofs.Common.{take}
use Rattle.std.specs.List.{AllZip}
use Rattle.tp_checks.specs.Resolved.{IsField}
use Rattle.tp_checks.proofs.resolving.make_fields.Given as goal

abbrev pub invariant-loop-field : goal.invariant-loop-field
invariant-loop-field l = AllZip (IsField l.types) (take l.field-index l.fields) l.made
