-- What is said, the number of states, and the orders, one after the other.
use Rattle.tp_common.proofs.WatchedWriterGrowth.{writes_both}
use Rattle.tpr.specs.Texts.{verdicts_text}
use Rattle.tpr.proofs.verdicts.writing.write_verdicts.Goals as goal

pub returns : goal.returns
unfolding verdicts_text
returns g c =
    let said = rw c.as_slice.ensures.value at c.write_said.ensures in
    let orders = rw c.as_slice-2.ensures.value at c.write_needed_orders.ensures in
    writes_both _ _ _ _ _ _ said (writes_both _ _ _ _ _ _ c.write_states.ensures orders)
