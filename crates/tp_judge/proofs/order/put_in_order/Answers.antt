-- The list is done in the end.
use Rattle.std.proofs.Common.{ℕ, List, sum, subst, ap, ◌∙◌, arith}
use Rattle.std.proofs.lemmas.List.{with_items_is}
use Rattle.tp_judge.specs.Progress.{AreFree}
use Rattle.tp_judge.proofs.OrderSearchOutcomes.{done_none}
use Rattle.tp_judge.proofs.order.put_in_order.Goals as goal

pub loop-done-init : goal.loop-done-init
loop-done-init c =
    let order = c.in_ok-order.order.items in
    let free : AreFree c.in_ok-waits.waits.items order = subst (λ (w : List ℕ). AreFree w order) c.deref.ensures.value c.in_ok-order.ensures in
    record {
      size = c.in_ok-waits.ensures.size;
      done = done_none c.args.demands.now c.in_ok-waits.waits.items order c.in_ok-waits.ensures.waits free;
    }

pub loop-done-smaller : goal.loop-done-smaller
loop-done-smaller c =
    let now = with_items_is c.loop-done.waits c.take_off.new.waits (c.take_off.auto.waits ∙ c.deref_mut.ensures.len) in
    let same = ap sum now in
    let was = ap sum c.deref_mut.ensures.value in
    let falls = c.in_ok-take_off.ensures.falls in
    omega (arith, same, was, falls)
