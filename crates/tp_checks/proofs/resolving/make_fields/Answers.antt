-- The next field has its own name, and the type that it names.
use Rattle.std.proofs.Common.{arith}
use Rattle.tp_checks.specs.Resolved.{IsField}
use Rattle.tp_checks.proofs.ListPrefixGrowth.{zip_more}
use Rattle.tp_checks.proofs.resolving.make_fields.Goals as goal

pub loop-field-preserved : goal.loop-field-preserved
loop-field-preserved c =
    rw c.in_ok-push.ensures.ok
    (zip_more (IsField c.args.types.now) c.args.fields.now c.loop-field.made c.loop-field.field-index c.field-item.result c.in_ok-one.one (omega arith)
    c.field-item.is c.loop-field.invariant c.in_ok-one.ensures.made)
