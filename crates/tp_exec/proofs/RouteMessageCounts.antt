-- How many messages were put on each route, by a table.
use Rattle.std.proofs.Common.{◌≡◌, ◌≢◌, ◌⊎◌, inl, inr, ℕ, zero, suc, ◌+◌, ◌<◌, true, false, true≢false, cond, Some, List, [], ◌∷◌, ◌++◌, append_assoc, Contains, get_or, length, map, refl, sym, ap, ◌∙◌, subst, All, AllPairs, arith}
use Rattle.std.proofs.lemmas.Bool.{cases_Bool, cases_order}
use Rattle.std.proofs.lemmas.List.{map-append}
use Rattle.std.proofs.lemmas.List.Elements.{All-contains, All-head, All-tail}
use Rattle.std.proofs.lemmas.Option.{same_Some}
use Rattle.indexmap.specs.IndexMap.{IndexMap, Updates, get}
use Rattle.tp_config.specs.declared.port_type.RouteId.{RouteId}
use Rattle.tp_inbox.specs.History.{count_of, posted_on, same_route}
use Rattle.tp_inbox.specs.Ledgers.{SenderLedger, put_on_way}
use Rattle.tp_inbox.specs.Places.{KeepsOtherRoutes, route_eq}
use Rattle.tp_inbox.specs.Routed.{absent_route, route_at}
use Rattle.tp_inbox.proofs.ArrivalsOfEnvelopes.{same_default}
use Rattle.tp_inbox.proofs.RoutePlaceTableGrowth.{eq_same}
use Rattle.tp_inbox.proofs.SenderPutInvariants.{route_itself, route_same}
use Rattle.tp_behaviour.specs.Outboxes.{routes_of}
use Rattle.tp_exec.specs.ReturnedSenders.{AreFiledOf, IsCounted, IsFiled, ShareNone}
use Rattle.tp_exec.proofs.PairwiseDifferentElements.{flat_from}

-- of the first n routes of a sender it is filed how much was put there, and of none that isn't one of its routes
pub record AreFirstFiled {S : Type 0} (n : ℕ) (s : SenderLedger) (before now : IndexMap RouteId ℕ S) : Type 0 where
  pub filed : (k : ℕ) → k < n → IsFiled now s (route_at s.routes k)
  pub others : KeepsOtherRoutes s.routes before now

pub filed_none : {S : Type 0} (s : SenderLedger) (m : IndexMap RouteId ℕ S) → AreFirstFiled 0 s m m
filed_none s m = record { filed = λ k low. absurd (omega (arith, low)); others = λ r none. refl }

-- one more
pub filed_next : {S : Type 0} (s : SenderLedger) (before now after : IndexMap RouteId ℕ S) (n : ℕ) → n < length s.routes → AreFirstFiled n s before now
    → (r : RouteId) (v : ℕ) → r ≡ route_at s.routes n → v ≡ length (put_on_way s n) → Updates route_eq now after r (Some v)
    → AreFirstFiled (n + 1) s before after
filed_next {S = S} s before now after n low h q v is counts updates = record {
  filed = λ k below. filed k below (cases_order k n);
  others = λ r none. others r none (cases_Bool (route_eq here r));
}
  where
    here : RouteId
    here = route_at s.routes n

    up : Updates {S = S} route_eq now after here (Some (length (put_on_way s n)))
    up = subst (λ r. Updates route_eq now after r (Some (length (put_on_way s n)))) is (subst (λ m. Updates route_eq now after q (Some m)) counts updates)

    before_it : (k : ℕ) → k < n → (route_eq here (route_at s.routes k) ≡ true) ⊎ (route_eq here (route_at s.routes k) ≡ false)
        → IsFiled after s (route_at s.routes k)
    before_it k less (inl e) = subst (IsFiled after s) (eq_same here (route_at s.routes k) e) up.1
    before_it k less (inr e) = up.2 (route_at s.routes k) e ∙ h.filed k less

    filed : (k : ℕ) → k < n + 1 → (k ≡ n) ⊎ ((k < n) ⊎ (n < k)) → IsFiled after s (route_at s.routes k)
    filed k below (inl e) = subst (λ j. IsFiled after s (route_at s.routes j)) (sym e) up.1
    filed k below (inr (inl less)) = before_it k less (cases_Bool (route_eq here (route_at s.routes k)))
    filed k below (inr (inr more)) = absurd (omega (arith, below, more))

    others : (r : RouteId) → All (λ (q : RouteId). q ≢ r) s.routes → (route_eq here r ≡ true) ⊎ (route_eq here r ≡ false)
        → get route_eq after r ≡ get route_eq before r
    others r none (inl e) = absurd (none n absent_route low (eq_same here r e))
    others r none (inr e) = up.2 r e ∙ h.others r none

pub filed_whole : {S : Type 0} (s : SenderLedger) (before now : IndexMap RouteId ℕ S) (n : ℕ) → length s.routes ≡ n → AreFirstFiled n s before now
    → AreFiledOf now s
filed_whole s before now n whole h k d low =
    subst (IsFiled now s) (same_default s.routes k absent_route d low) (h.filed k (omega (arith, low, whole)))

-- of the first n senders it is filed how much each has put on its routes
abbrev pub AreFiledBelow : {S : Type 0} → ℕ → List SenderLedger → IndexMap RouteId ℕ S → Type 0
AreFiledBelow n ss counts = (k : ℕ) (d : SenderLedger) → k < n → k < length ss → AreFiledOf counts (get_or ss k d)

pub below_next : {S : Type 0} (ss : List SenderLedger) (s : SenderLedger) (n : ℕ) (now after : IndexMap RouteId ℕ S) → n < length ss → s ≡ get_or ss n s
    → AllPairs ShareNone ss → AreFiledBelow n ss now → AreFiledOf after s → KeepsOtherRoutes s.routes now after → AreFiledBelow (n + 1) ss after
below_next ss s n now after low is apart h here others k d below within = by (cases_order k n) where
  at : get_or ss n d ≡ s
  at = same_default ss n d s low ∙ sym is

  by : (k ≡ n) ⊎ ((k < n) ⊎ (n < k)) → AreFiledOf after (get_or ss k d)
  by (inl e) = subst (AreFiledOf after) (sym (ap (λ j. get_or ss j d) e ∙ at)) here
  by (inr (inl less)) = λ j r few.
      let q = get_or (get_or ss k d).routes j r in
      let none : All (λ (x : RouteId). x ≢ q) s.routes =
      subst (λ (t : SenderLedger). All (λ (x : RouteId). x ≢ q) t.routes) at (apart k n d less low j r few) in
      others q none ∙ h k d less within j r few
  by (inr (inr more)) = absurd (omega (arith, below, more))

-- each of these routes is filed, where each is one of the senders'
pub all_filed : {S : Type 0} (ss : List SenderLedger) (routes : List RouteId) (m : IndexMap RouteId ℕ S) → All (AreFiledOf m) ss
    → All (Contains (routes_of ss)) routes → All (λ (r : RouteId). (n : ℕ) × (get route_eq m r ≡ Some n)) routes
all_filed ss routes m filed theirs = λ k d low.
    let r : RouteId = get_or routes k d in
    let w = flat_from (λ (s : SenderLedger). s.routes) ss r (theirs k d low) in
    (length (posted_on r w.0.ledger), All-contains (IsFiled m w.0) w.0.routes r (All-contains (AreFiledOf m) ss w.0 filed w.1) w.2)

-- the count that stands beside a route is the one that is filed
counted_at : {S : Type 0} (m : IndexMap RouteId ℕ S) (counts : List (RouteId × ℕ)) (r : RouteId) (n : ℕ)
    → All (λ (c : RouteId × ℕ). get route_eq m c.0 ≡ Some c.1) counts → Contains (map (λ (c : RouteId × ℕ). c.0) counts) r → get route_eq m r ≡ Some n → count_of r counts ≡ n
counted_at m [] r n all h at = absurd (omega (arith, h.1))
counted_at m (c ∷ counts) r n all h at =
    by (cases_Bool (same_route r c.0)) (λ other. counted_at m counts r n (All-tail Filed c counts all) (later other h) at)
  where
    Filed : RouteId × ℕ → Type 0
    Filed = λ x. get route_eq m x.0 ≡ Some x.1

    later : same_route r c.0 ≡ false → Contains (map (λ (x : RouteId × ℕ). x.0) (c ∷ counts)) r → Contains (map (λ (x : RouteId × ℕ). x.0) counts) r
    later other (zero, low, is) = absurd (true≢false (sym (route_itself r) ∙ ap (same_route r) (sym is) ∙ other))
    later other (suc k, low, is) = (k, omega (arith, low), is)

    by : (same_route r c.0 ≡ true) ⊎ (same_route r c.0 ≡ false) → (same_route r c.0 ≡ false → count_of r counts ≡ n) → count_of r (c ∷ counts) ≡ n
    by (inl e) rest =
        let here : get route_eq m r ≡ Some c.1 = ap (get route_eq m) (route_same r c.0 e) ∙ All-head Filed c counts all in
        ap (λ b. cond b c.1 (count_of r counts)) e ∙ same_Some c.1 n (sym here ∙ at)
    by (inr e) rest = ap (λ b. cond b c.1 (count_of r counts)) e ∙ rest e

pub counted : {S : Type 0} (ss : List SenderLedger) (routes : List RouteId) (counts : List (RouteId × ℕ)) (m : IndexMap RouteId ℕ S) → All (AreFiledOf m) ss
    → All (λ (c : RouteId × ℕ). get route_eq m c.0 ≡ Some c.1) counts → map (λ (c : RouteId × ℕ). c.0) counts ≡ routes → (s : SenderLedger) (r : RouteId)
    → Contains ss s → Contains s.routes r → Contains routes r → IsCounted counts s r
counted ss routes counts m filed all are s r there has known =
    counted_at m counts r (length (posted_on r s.ledger)) all (subst (λ rs. Contains rs r) (sym are) known)
    (All-contains (IsFiled m s) s.routes r (All-contains (AreFiledOf m) ss s filed there) has)

-- one route more has its count beside it
pub one_counted : (all after : List (RouteId × ℕ)) (left rest routes : List RouteId) (r : RouteId) (n : ℕ) → after ≡ all ++ (r, n) ∷ [] → left ≡ r ∷ rest
    → map (λ (c : RouteId × ℕ). c.0) all ++ left ≡ routes → map (λ (c : RouteId × ℕ). c.0) after ++ rest ≡ routes
one_counted all after left rest routes r n pushed steps was =
    let route : RouteId × ℕ → RouteId = λ c. c.0 in
    ap (λ l. map route l ++ rest) pushed ∙ ap (λ l. l ++ rest) (map-append route all ((r, n) ∷ [])) ∙ append_assoc (map route all) (r ∷ []) rest
    ∙ ap (λ l. map route all ++ l) (sym steps) ∙ was
