-- Each demand of the chain is taken off, and the chain has them all.
use Rattle.std.proofs.Common.{◌≡◌, ℕ, ◌+◌, ◌-◌, ◌<◌, List, [], ◌∷◌, ◌++◌, length, set, sym, subst, ap, ◌∙◌, slice_index}
use Rattle.std.proofs.Common.{Vec, Global, arith}
use Rattle.std.proofs.lemmas.List.{get_or_read, get_or-set_same, length_push}
use Rattle.std.proofs.lemmas.List.Elements.{All-get_or}
use Rattle.tp_judge.specs.Places.{no_demand, before_at, after_at}
use Rattle.tp_judge.specs.Order.{IsBelow}
use Rattle.tp_judge.specs.Chains.{IsLast}
use Rattle.tp_judge.proofs.DemandRemovalSteps.{IsTaking, taking_at, taking_some, taking_still, taking_more, taking_ends}
use Rattle.tp_judge.proofs.DemandRemovalSteps.{waits_fall}
use Rattle.tp_judge.proofs.order.take_off.Goals as goal
use Rattle.tp_judge.proofs.order.take_off.Goals.{then-waits-after-eq0+in_ok-push, else-waits-after-eq0}

pub overflow_sub-waits : goal.overflow_sub-waits
overflow_sub-waits c =
    let demands = c.args.demands.now in
    let k = c.loop-at.at - 1 in
    let was = c.loop-at.invariant.taking in
    let within = was.passing.within in
    let low : k < length demands = omega (arith, within) in
    let below = All-get_or (IsBelow (length c.args.waits.now)) demands k no_demand low c.requires.below in
    let small : after_at demands k < length c.loop-at.waits = omega (arith, below.1) in
    let some = taking_some demands c.loop-at.waits c.loop-at.order.items c.args.done _ k (taking_at demands _ _ _ _ _ was c.loop-at-test.true) small in
    omega (arith, some)

pub loop-at-preserved : goal.loop-at-preserved
loop-at-preserved c =
    let demands = c.args.demands.now in
    let waits = c.loop-at.waits in
    let order = c.loop-at.order.items in
    let k = c.loop-at.at - 1 in
    let t = after_at demands k in
    let was = c.loop-at.invariant.taking in
    let within = was.passing.within in
    let low : k < length demands = omega (arith, within) in
    let below = All-get_or (IsBelow (length c.args.waits.now)) demands k no_demand low c.requires.below in
    let small : t < length waits = omega (arith, below.1) in
    let now = taking_at demands _ _ _ _ _ was c.loop-at-test.true in
    let some = taking_some demands waits order c.args.done _ k now small in
    let size : k < length c.args.chains.now.previous.items = let s = c.requires.chains.size in omega (arith, s, low) in
    let read = get_or_read c.args.chains.now.previous.items k c.index-at-in-loop-at.result.now size c.index-at-in-loop-at.ensures 0 in
    let P : ℕ → Type 0 = λ p. IsLast demands (before_at demands k) k p in
    let next = subst P (sym read) (c.requires.chains.previous_is k low) in
    let fall = waits_fall waits t small some in
    let items : Vec ℕ Global → List ℕ = λ o. o.items in
    let falls = c.loop-at.invariant.falls in
    let v = slice_index waits t - 1 in
    let is : slice_index waits t ≡ v + 1 = omega (arith, some) in
    let here = get_or-set_same waits t v 0 small in
    let x = slice_index c.args.order.now.items c.args.done in
    elim c.if-waits-after-eq0.branch [
      | then-waits-after-eq0+in_ok-push w ↦
          let none : v ≡ 0 = sym here ∙ w.if-waits-after-eq0.true in
          let more : c.if-waits-after-eq0.order.items ≡ order ++ t ∷ [] = ap items w.order-is ∙ w.in_ok-push.ensures.items in
          let size = ap length more ∙ length_push order t in
          record {
            taking = subst (λ (o : List ℕ). IsTaking demands (set waits t v) o c.args.done x c.index-at-in-loop-at.result.now) (sym more) (taking_more demands waits order c.args.done x k _ v now small next is none);
            falls = omega (arith, fall, falls, size);
          }
      | else-waits-after-eq0 w ↦
          let some : 0 < v = let other = w.if-waits-after-eq0.false in omega (arith, here, other) in
          let same : c.if-waits-after-eq0.order.items ≡ order = ap items w.order-is in
          let size = ap length same in
          record {
            taking = subst (λ (o : List ℕ). IsTaking demands (set waits t v) o c.args.done x c.index-at-in-loop-at.result.now) (sym same) (taking_still demands waits order c.args.done x k _ v now small next is some);
            falls = omega (arith, fall, falls, size);
          }
    ]

pub returns-clause-done : goal.returns-clause-done
returns-clause-done c =
    let end : c.loop-at.at ≡ 0 = omega arith in
    taking_ends _ _ _ _ _ _ c.loop-at.invariant.taking end
