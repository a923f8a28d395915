-- The list has all numbers, or some that wait for each other are left, and among them is a circle.
use Rattle.std.proofs.Common.{◌≡◌, ℕ, ◌<◌, All, List, length, subst, sym, ap, ◌∙◌}
use Rattle.tp_judge.specs.AfterOrdering.{IsWaiting, AreStuck}
use Rattle.tp_judge.proofs.DemandPathsReachCircles.{lies_first}
use Rattle.tp_judge.proofs.OrderSearchOutcomes.{order_found, order_none, ended_stuck}
use Rattle.tp_judge.proofs.order.order_or_circle.Goals as goal

pub find_circle-requires-clause-stuck : goal.find_circle-requires-clause-stuck
find_circle-requires-clause-stuck c =
    let ended = c.in_ok-order.field-0 in
    let demands = c.args.demands.now in
    let stuck = ended_stuck c.args.count demands ended.waits.items ended.order.items c.in_ok-order.ensures c.requires in
    subst (λ (ws : List ℕ). AreStuck demands (IsWaiting ws)) (sym c.deref-in-Some.ensures.value) stuck.1

pub returns-in-None : goal.returns-in-None
returns-in-None c =
    let ended = c.in_ok-order.field-0 in
    let none : All (λ (w : ℕ). w ≡ 0) ended.waits.items = subst (λ (ws : List ℕ). All (λ (w : ℕ). w ≡ 0) ws) c.deref.ensures.value c.in-None.ensures in
    order_found c.args.count c.args.demands.now ended.waits.items ended.order.items c.in_ok-order.ensures c.requires none

pub returns-in_ok-find_circle-in-Some : goal.returns-in_ok-find_circle-in-Some
returns-in_ok-find_circle-in-Some c =
    let ended = c.in_ok-order.field-0 in
    let demands = c.args.demands.now in
    let circle = c.in_ok-find_circle-in-Some.field-0.items in
    let found = c.in_ok-find_circle-in-Some.ensures in
    let here : IsWaiting ended.waits.items c.in-Some.start = subst (λ (ws : List ℕ). IsWaiting ws c.in-Some.start) c.deref.ensures.value c.in-Some.ensures in
    let P : ℕ → Type 0 = λ n. All (λ x. x < n) circle in
    (subst P (ap length c.deref-in-Some.ensures.value ∙ c.in_ok-order.ensures.size) found.below, found.circle, lies_first demands circle found.circle, order_none c.args.count demands ended.waits.items ended.order.items c.in-Some.start c.in_ok-order.ensures c.requires here)
