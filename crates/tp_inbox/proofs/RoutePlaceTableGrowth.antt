-- Routes and their places, by a table.
use Rattle.std.proofs.Common.{◌≡◌, ◌≢◌, ◌⊎◌, inl, inr, ℕ, ◌+◌, ◌<◌, ◌≤◌, true, false, cond, eqb, Option, Some, None, List, length, take, refl, sym, ap, subst, ◌∙◌, arith}
use Rattle.std.specs.Prelude.{◌&&◌, All, AllPairs}
use Rattle.std.proofs.lemmas.Bool.{and_parts, eqb-true, cases_Bool, cases_order}
use Rattle.std.proofs.lemmas.List.{take_all}
use Rattle.std.proofs.lemmas.Option.{same_Some, none-some}
use Rattle.indexmap.specs.IndexMap.{IndexMap, IsEmpty, Updates, get}
use Rattle.std.specs.Map.{lookup}
use Rattle.tp_config.specs.declared.port_type.RouteId.{RouteId}
use Rattle.tp_inbox.specs.Routed.{route_at, absent_route}
use Rattle.tp_inbox.specs.Places.{AreFiled, route_eq}

-- routes of which `==` says that they are the same
pub eq_same : (r q : RouteId) → route_eq r q ≡ true → r ≡ q
eq_same r q e =
    let h = and_parts (eqb r.source.0 q.source.0) (eqb r.to.comp.0 q.to.comp.0 && eqb r.to.port q.to.port) e in
    let g = and_parts (eqb r.to.comp.0 q.to.comp.0) (eqb r.to.port q.to.port) h.1 in
    let a : r.source.0 ≡ q.source.0 = eqb-true r.source.0 q.source.0 h.0 in
    let b : r.to.comp.0 ≡ q.to.comp.0 = eqb-true r.to.comp.0 q.to.comp.0 g.0 in
    let p : r.to.port ≡ q.to.port = eqb-true r.to.port q.to.port g.1 in
    λ i. record { source = record { 0 = a i }; to = record { comp = record { 0 = b i }; port = p i } }

-- a table of nothing
pub filed_none : {S : Type 0} (routes : List RouteId) (m : IndexMap RouteId ℕ S) → IsEmpty m → AreFiled 0 routes m
filed_none routes m none = record {
  found = λ k low. absurd (omega arith);
  known = λ r k is. absurd (none-some k (sym (ap (lookup (route_eq r)) none) ∙ is));
}

-- the next route is filed at its place
pub filed_next : {S : Type 0} (routes : List RouteId) (m after : IndexMap RouteId ℕ S) (n : ℕ) → AllPairs (λ (r q : RouteId). r ≢ q) routes → n < length routes
    → AreFiled n routes m → Updates route_eq m after (route_at routes n) (Some n) → AreFiled (n + 1) routes after
filed_next routes m after n apart low filed up = record {
  found = λ k below. found k below (cases_order k n);
  known = λ r k is. known r k is (cases_Bool (route_eq (route_at routes n) r));
}
  where
    here : RouteId
    here = route_at routes n

    other : (k : ℕ) → k < n → (route_eq here (route_at routes k) ≡ true) ⊎ (route_eq here (route_at routes k) ≡ false)
        → route_eq here (route_at routes k) ≡ false
    other k less (inl same) = absurd (apart k n absent_route less low (sym (eq_same here (route_at routes k) same)))
    other k less (inr apart_) = apart_

    found : (k : ℕ) → k < n + 1 → (k ≡ n) ⊎ ((k < n) ⊎ (n < k)) → get route_eq after (route_at routes k) ≡ Some k
    found k below (inl e) = ap (λ j. get route_eq after (route_at routes j)) e ∙ up.1 ∙ ap (λ j. Some j) (sym e)
    found k below (inr (inl less)) = up.2 (route_at routes k) (other k less (cases_Bool (route_eq here (route_at routes k)))) ∙ filed.found k less
    found k below (inr (inr more)) = absurd (omega arith)

    known : (r : RouteId) (k : ℕ) → get route_eq after r ≡ Some k → (route_eq here r ≡ true) ⊎ (route_eq here r ≡ false) → (k < n + 1) × (route_at routes k ≡ r)
    known r k is (inl same) =
        let at : n ≡ k = same_Some n k (sym (up.0 r ∙ ap (λ b. cond b (Some n) (get route_eq m r)) same) ∙ is) in
        (omega (arith, at), ap (route_at routes) (sym at) ∙ eq_same here r same)
    known r k is (inr differs) = let old = filed.known r k (sym (up.2 r differs) ∙ is) in (let less = old.0 in omega arith, old.1)

none_or : (o : Option ℕ) → ((k : ℕ) → o ≡ Some k → ⊥) → None ≡ o
none_or None other = refl
none_or (Some k) other = absurd (other k refl)

-- a route that none of these is isn't found
pub found_nowhere : {S : Type 0} (routes : List RouteId) (m : IndexMap RouteId ℕ S) (r : RouteId) (n : ℕ) → AreFiled (length routes) routes m
    → length routes ≤ n → All (λ (q : RouteId). q ≢ r) (take n routes) → None ≡ get route_eq m r
found_nowhere routes m r n filed whole none =
    none_or (get route_eq m r) (λ k is. let at = filed.known r k is in
    subst (All (λ (q : RouteId). q ≢ r)) (take_all n routes whole) none k absent_route at.0 at.1)
