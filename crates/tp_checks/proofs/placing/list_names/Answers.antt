-- The name of the next field is none of those before, so it goes last.
use Rattle.std.proofs.Common.{map, ap, ◌∙◌, arith}
use Rattle.tp_checks.proofs.FieldNameTables.{listed_more}
use Rattle.tp_checks.proofs.placing.list_names.Goals as goal

pub loop-field-preserved : goal.loop-field-preserved
loop-field-preserved c = λ apart.
    ap (map (λ n. n.now)) c.in-Ok.ensures.keys
    ∙ listed_more (λ n. n.now) c.args.fields.now c.loop-field.table.names.keys c.as_slice.result c.loop-field.field-index c.field-item.result apart
    (omega arith) c.field-item.is c.as_slice.ensures (c.loop-field.invariant apart)
