-- The number, a space, and the name.
use Rattle.tp_common.proofs.WatchedWriterGrowth.{writes_both}
use Rattle.tpr.proofs.modes.write_label.Goals as goal

pub returns : goal.returns
returns g c =
    let number = rw c.label-number.ensures.number at c.write_number.ensures in
    let name = rw (c.as_bytes.ensures.value, c.label-number.ensures.name) at c.write_bytes-2.ensures in
    writes_both _ _ _ _ _ _ (writes_both _ _ _ _ _ _ number c.write_bytes.ensures) name
