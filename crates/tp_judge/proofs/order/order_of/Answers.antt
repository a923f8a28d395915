-- The list has all numbers, or some that wait for each other are left.
use Rattle.std.proofs.Common.{◌≡◌, ℕ, All, List, subst}
use Rattle.tp_judge.specs.AfterOrdering.{IsWaiting}
use Rattle.tp_judge.proofs.OrderSearchOutcomes.{order_found, order_none}
use Rattle.tp_judge.proofs.order.order_of.Goals as goal

pub returns-in-None-clause-ordered : goal.returns-in-None-clause-ordered
returns-in-None-clause-ordered c =
    let ended = c.in_ok-order.field-0 in
    let none : All (λ (w : ℕ). w ≡ 0) ended.waits.items = subst (λ (ws : List ℕ). All (λ (w : ℕ). w ≡ 0) ws) c.deref.ensures.value c.in-None.ensures in
    order_found c.args.count c.args.demands.now ended.waits.items ended.order.items c.in_ok-order.ensures c.requires none

pub returns-in-Some-clause-none : goal.returns-in-Some-clause-none
returns-in-Some-clause-none c =
    let ended = c.in_ok-order.field-0 in
    let x = c.in-Some.field-0 in
    let here : IsWaiting ended.waits.items x = subst (λ (ws : List ℕ). IsWaiting ws x) c.deref.ensures.value c.in-Some.ensures in
    order_none c.args.count c.args.demands.now ended.waits.items ended.order.items x c.in_ok-order.ensures c.requires here
