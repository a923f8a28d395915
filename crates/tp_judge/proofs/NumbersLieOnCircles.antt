-- Each number of a circle lies on it.
use Rattle.std.proofs.Common.{◌≡◌, ◌⊎◌, inl, inr, ℕ, zero, suc, ◌+◌, ◌-◌, ◌<◌, List, length, ap, sym, ◌∙◌, subst}
use Rattle.std.proofs.Common.{add-zero, arith}
use Rattle.std.specs.Prelude.{slice_index}
use Rattle.tp_judge.specs.declared.demand.Demand.{Demand}
use Rattle.tp_judge.specs.Circle.{IsCircle, LeadsThrough, LiesOnCircle}
use Rattle.tp_judge.proofs.HappensBeforeByDemands.{leads_on}

-- the demands lead from the one to the other
abbrev DemandsLead : List Demand → ℕ → ℕ → Type 0
DemandsLead demands x y = (further : ℕ) × LeadsThrough demands further x y

-- it is the other, or they lead there
Reaches : List Demand → ℕ → ℕ → Type 0
Reaches demands x y = (x ≡ y) ⊎ DemandsLead demands x y

leads_then : (demands : List Demand) (x y z : ℕ) → DemandsLead demands x y → DemandsLead demands y z → DemandsLead demands x z
leads_then demands x y z first second = leads_on demands first.0 second.0 x y z first.1 second.1

-- from a number of the circle to one after it
along : (demands : List Demand) (circle : List ℕ) → IsCircle demands circle → (more k : ℕ) → k + more < length circle
    → Reaches demands (slice_index circle k) (slice_index circle (k + more))
unfolding Reaches
along demands circle is zero k below = inl (ap (slice_index circle) (sym (add-zero k)))
along demands circle is (suc more) k below =
    let first : DemandsLead demands (slice_index circle k) (slice_index circle (k + 1)) = (0, is.next k (omega arith)) in
    let place : k + 1 + more ≡ k + suc more = omega arith in
    let there : slice_index circle (k + 1 + more) ≡ slice_index circle (k + suc more) = ap (slice_index circle) place in
    elim (along demands circle is more (k + 1) (omega arith)) [
      | inl same ↦ inr (subst (DemandsLead demands (slice_index circle k)) (same ∙ there) first)
      | inr leads ↦
          inr (leads_then demands (slice_index circle k) (slice_index circle (k + 1)) (slice_index circle (k + suc more)) first
          (subst (DemandsLead demands (slice_index circle (k + 1))) there leads))
    ]

reaches_leads : (demands : List Demand) (x y z : ℕ) → Reaches demands x y → DemandsLead demands y z → DemandsLead demands x z
unfolding Reaches
reaches_leads demands x y z (inl same) leads = subst (λ (w : ℕ). DemandsLead demands w z) (sym same) leads
reaches_leads demands x y z (inr first) leads = leads_then demands x y z first leads

leads_reaches : (demands : List Demand) (x y z : ℕ) → DemandsLead demands x y → Reaches demands y z → DemandsLead demands x z
unfolding Reaches
leads_reaches demands x y z leads (inl same) = subst (DemandsLead demands x) same leads
leads_reaches demands x y z leads (inr other) = leads_then demands x y z leads other

pub lies_on_circle : (demands : List Demand) (circle : List ℕ) (k : ℕ) → IsCircle demands circle → k < length circle
    → LiesOnCircle demands (slice_index circle k)
lies_on_circle demands circle k is below =
    let last = length circle - 1 in
    let here = slice_index circle k in
    let end : k + (last - k) ≡ last = omega arith in
    let start : 0 + k ≡ k = omega arith in
    let up = subst (λ (n : ℕ). Reaches demands here (slice_index circle n)) end (along demands circle is (last - k) k (omega arith)) in
    let down = subst (λ (n : ℕ). Reaches demands (slice_index circle 0) (slice_index circle n)) start (along demands circle is k 0 (omega arith)) in
    reaches_leads demands here (slice_index circle last) here up
    (leads_reaches demands (slice_index circle last) (slice_index circle 0) here (0, is.round) down)
