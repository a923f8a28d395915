-- What follows once no more numbers can be put at the end of the list.
use Rattle.std.proofs.Common.{◌≡◌, inl, inr, ℕ, zero, suc, ◌<◌, ◌≤◌, ◌==◌, ◌&&◌, Bool, true, List, length, refl, sym}
use Rattle.std.proofs.Common.{subst, slice_index, All, arith}
use Rattle.std.proofs.lemmas.Bool.{and_parts, cases_lt, eqb-true, true≢false}
use Rattle.std.proofs.lemmas.List.Elements.{All-get_or, All-from_get_or}
use Rattle.tp_judge.specs.declared.demand.Demand.{Demand}
use Rattle.tp_judge.specs.Places.{no_demand, before_at, after_at}
use Rattle.tp_judge.specs.Order.{IsBelow, IsNumberAt, StandsBefore, IsOrder, CanBeOrdered}
use Rattle.tp_judge.specs.Counts.{AreWaits}
use Rattle.tp_judge.specs.Progress.{AreFree, IsOrderedUpTo}
use Rattle.tp_judge.specs.AfterOrdering.{IsEnded, IsWaiting, AreStuck}
use Rattle.tp_judge.proofs.CountsBelowBound.{count_some}
use Rattle.tp_judge.proofs.NumberPlaceGrowth.{stands_within}
use Rattle.tp_judge.proofs.WaitsAfterDemandRemoval.{waits_some}

-- at first all demands are left
pub done_none : (demands : List Demand) (waits order : List ℕ) → AreWaits demands (λ _. true) waits
    → AreFree waits order → IsOrderedUpTo demands waits order 0
done_none demands waits order are free = record {
  left = λ _. true;
  begun = record {
    waits_are = are;
    free = free;
    met = λ k i low stands.
        let t = after_at demands k in
        let some = waits_some demands (λ _. true) waits k are low refl (free.below i t stands) in
        let none = free.free i t stands in
        absurd (omega (arith, some, none));
  };
  taken = λ k low gone. absurd (true≢false gone);
  kept = λ k j low stays less stands. omega (arith, less);
}

-- where no number waits, the list is an order
pub order_found : (count : ℕ) (demands : List Demand) (waits order : List ℕ) → IsEnded count demands waits order
    → All (IsBelow count) demands → All (λ w. w ≡ 0) waits → IsOrder count demands order
order_found count demands waits order ended small none =
    let was = ended.is_done in
    let size = ended.size in
    let zero_at : (x : ℕ) → x < count → slice_index waits x ≡ 0 = λ x low. none x 0 (omega (arith, size, low)) in
    record {
      listing = record {
        below = λ i x at. let less = was.begun.free.below i x at in omega (arith, size, less);
        each = λ x low. was.begun.free.listed x (omega (arith, size, low)) (zero_at x low);
        once = was.begun.free.once;
      };
      met = All-from_get_or (λ d. StandsBefore order d.before d.after) demands no_demand (λ k low.
          let below = All-get_or (IsBelow count) demands k no_demand low small in
          let t = after_at demands k in
          let later = was.begun.free.listed t (omega (arith, size, below.1)) (zero_at t below.1) in
          let first = was.begun.met k later.0 low later.1 in
          (first.0, later.0, first.1, first.2, later.1));
    }

-- such numbers stand nowhere in an order
stuck_nowhere : (count : ℕ) (demands : List Demand) (order : List ℕ) (P : ℕ → Type 0) → AreStuck demands P
    → IsOrder count demands order → (n i x : ℕ) → i < n → P x → IsNumberAt order i x → ⊥
stuck_nowhere count demands order P stuck is zero i x low here at = omega arith
stuck_nowhere count demands order P stuck is (suc n) i x low here at =
    let k = stuck x here in
    let before = All-get_or (λ d. StandsBefore order d.before d.after) demands k.0 no_demand k.1 is.met in
    let same = is.listing.once before.1 i x (subst (λ y. IsNumberAt order before.1 y) k.2 before.4) at in
    stuck_nowhere count demands order P stuck is n before.0 (before_at demands k.0) (omega (arith, before.2, same, low)) k.3 before.3

-- so where there is one, there is no order
pub stuck_none : (count : ℕ) (demands : List Demand) (P : ℕ → Type 0) → AreStuck demands P → (x : ℕ) → x < count → P x
    → CanBeOrdered count demands → ⊥
stuck_none count demands P stuck x low here can =
    let at = can.1.listing.each x low in
    stuck_nowhere count demands can.0 P stuck can.1 (suc at.0) at.0 x (omega arith) here at.1

-- where the whole list is done, each number that waits has a demand for another one that waits
pub waiting_stuck : (demands : List Demand) (waits order : List ℕ) (done : ℕ) → IsOrderedUpTo demands waits order done
    → length order ≤ done → All (IsBelow (length waits)) demands → AreStuck demands (IsWaiting waits)
waiting_stuck demands waits order done was end small x here =
    let test : ℕ → Bool = λ k. was.left k && (after_at demands k == x) in
    let same = was.begun.waits_are x here.0 in
    let some = count_some (length demands) test (omega (arith, same, here.1)) in
    let k = some.0 in
    let parts = and_parts (was.left k) (after_at demands k == x) some.2 in
    let below = All-get_or (IsBelow (length waits)) demands k no_demand some.1 small in
    let y = before_at demands k in
    let waits_too : 0 < slice_index waits y = elim (cases_lt 0 (slice_index waits y)) [
      | inl more ↦ more
      | inr none ↦
          let at = was.begun.free.listed y below.0 (omega (arith, none)) in
          let in_list = stands_within order at.0 y at.1 in
          absurd (was.kept k at.0 some.1 parts.0 (omega (arith, in_list, end)) at.1)
    ] in
    (k, some.1, eqb-true (after_at demands k) x parts.1, (below.0, waits_too))

-- the same, where the numbers are put in order as far as that goes
pub ended_stuck : (count : ℕ) (demands : List Demand) (waits order : List ℕ) → IsEnded count demands waits order
    → All (IsBelow count) demands → All (IsBelow (length waits)) demands × AreStuck demands (IsWaiting waits)
ended_stuck count demands waits order ended small =
    let P : ℕ → Type 0 = λ n. All (IsBelow n) demands in
    let here = subst P (sym ended.size) small in
    (here, waiting_stuck demands waits order ended.done ended.is_done ended.all here)

-- so where one of them waits still, there is no order
pub order_none : (count : ℕ) (demands : List Demand) (waits order : List ℕ) (x : ℕ) → IsEnded count demands waits order
    → All (IsBelow count) demands → IsWaiting waits x → CanBeOrdered count demands → ⊥
order_none count demands waits order x ended small here =
    let size = ended.size in
    let stuck = ended_stuck count demands waits order ended small in
    stuck_none count demands (IsWaiting waits) stuck.1 x (omega (arith, size, here.0)) here
