-- The senders of a component, by their inboxes and routes.
use Rattle.std.proofs.Common.{◌≡◌, inl, inr, ℕ, zero, suc, ◌<◌, Bool, true, false, cond, eqb, Some, List, [], ◌∷◌, ◌++◌, map, Contains, slice_get, get_or, length, length-append, refl, sym, ap, ◌∙◌, subst, rules, arith, eq-eqb, true≢false}
use Rattle.std.specs.Prelude.{slice_set, ◌&&◌, ◌≢◌, ◌⊎◌, ◌≤◌, All, Result, Ok, Err, IfErr, OnErr, OnOk}
use Rattle.std.proofs.lemmas.List.{length-set}
use Rattle.std.proofs.lemmas.List.Elements.{All-nil, All-cons, All-contains, All-head, All-push, All-set, All-tail, Contains-append_cases, Contains-append_left, Contains-push}
use Rattle.indexmap.specs.IndexMap.{IndexMap}
use Rattle.std.proofs.lemmas.Bool.{and_parts, and_from, eqb-true}
use Rattle.std.proofs.lemmas.Option.{same_Some}
use Rattle.tp_config.specs.declared.port_type.CompId.{CompId}
use Rattle.tp_config.specs.declared.port_type.RouteId.{RouteId}
use Rattle.tp_inbox.specs.declared.stamped.Stamped.{Stamped}
use Rattle.tp_inbox.specs.declared.entry.Entry.TheVariants as entry
use Rattle.tp_inbox.specs.Desks.{Journal, adding}
use Rattle.tp_inbox.specs.History.{posted_on}
use Rattle.tp_inbox.specs.Ledgers.{Inbox, SenderLedger, end_of, posting, put_on_way, putting}
use Rattle.tp_inbox.specs.Places.{KeepsOtherRoutes, route_eq}
use Rattle.tp_inbox.specs.Routed.{route_at}
use Rattle.tp_inbox.proofs.SenderPutInvariants.{route_same}
use Rattle.tp_behaviour.specs.declared.outbox.RoutePlace.{RoutePlace}
use Rattle.tp_behaviour.specs.Outboxes.{AreFiledAt, AreSendersFiled, HasPut, IsAimed, IsRouteFull, IsListed, LeadsBack, put_on, routes_of}

-- what is in a list stands at its place
pub stands : {X : Type 0} (xs : List X) (x : X) → (c : Contains xs x) → slice_get xs c.0 ≡ Some x
stands [] x (k, below, is) = absurd (omega arith)
stands (y ∷ ys) x (zero, below, is) = ap (λ z. Some z) is
stands (y ∷ ys) x (suc k, below, is) = stands ys x (k, search rules, is)

-- what stands at a place is in the list
pub contained : {X : Type 0} (xs : List X) (k : ℕ) (x : X) → slice_get xs k ≡ Some x → Contains xs x
contained [] k x e = absurd (cc)
contained (y ∷ ys) zero x e = (0, search rules, same_Some y x e)
contained (y ∷ ys) (suc k) x e = let h = contained ys k x e in (suc h.0, search rules, h.2)

-- what stands at a place is within the list
pub below_length : {X : Type 0} (xs : List X) (k : ℕ) (x : X) → slice_get xs k ≡ Some x → k < length xs
below_length [] k x e = absurd (cc)
below_length (y ∷ ys) zero x e = omega arith
below_length (y ∷ ys) (suc k) x e = let h = below_length ys k x e in omega (arith, h)

-- the sender that has a route of these, and the route's place there
pub standing : (q : RouteId) (ss : List SenderLedger) → Contains (routes_of ss) q
    → (k : ℕ) × (s : SenderLedger) × (w : ℕ) × (slice_get ss k ≡ Some s) × (slice_get s.routes w ≡ Some q)
standing q [] (k, below, is) = absurd (omega arith)
standing q (s ∷ ss) c =
    elim (Contains-append_cases s.routes (routes_of ss) q c) [
      | inl h ↦ (0, s, h.0, refl, stands s.routes q h)
      | inr h ↦ (let t = standing q ss h in (suc t.0, t.1, t.2, t.3, t.4))
    ]

-- components of one number are one
pub same_comp : (a b : CompId) → a.0 ≡ b.0 → a ≡ b
same_comp a b e = λ i. record { 0 = e i }

-- nothing is put by senders into other inboxes
none_put : (q : RouteId) (m : Stamped) (ss : List SenderLedger)
    → ((j : ℕ) (t : SenderLedger) → slice_get ss j ≡ Some t → eqb t.inbox.comp.0 q.to.comp.0 ≡ true → ⊥) → map (put_on q m) ss ≡ ss
none_put q m [] none = refl
none_put q m (s ∷ ss) none = by (eqb s.inbox.comp.0 q.to.comp.0) refl (none_put q m ss (λ j t is e'. none (suc j) t is e')) where
  by : (b : Bool) → eqb s.inbox.comp.0 q.to.comp.0 ≡ b → map (put_on q m) ss ≡ ss → cond b (posting s q m) s ∷ map (put_on q m) ss ≡ s ∷ ss
  by true e rest = absurd (none 0 s refl e)
  by false e rest = ap (λ l. s ∷ l) rest

-- what the one sender into an inbox puts
pub put_here : (q : RouteId) (m : Stamped) (ss : List SenderLedger) (k : ℕ) (s : SenderLedger) → slice_get ss k ≡ Some s → q.to.comp ≡ s.inbox.comp
    → ((j : ℕ) (t : SenderLedger) → slice_get ss j ≡ Some t → eqb t.inbox.comp.0 q.to.comp.0 ≡ true → j ≡ k)
    → slice_set ss k (posting s q m) ≡ map (put_on q m) ss
put_here q m [] k s is leads only = absurd (cc)
put_here q m (x ∷ xs) zero s is leads only =
    let here : eqb x.inbox.comp.0 q.to.comp.0 ≡ true = subst (λ (t : SenderLedger). eqb t.inbox.comp.0 q.to.comp.0 ≡ true) (sym (same_Some x s is))
    (eq-eqb s.inbox.comp.0 q.to.comp.0 (ap (λ (c : CompId). c.0) (sym leads))) in
    let rest : map (put_on q m) xs ≡ xs = none_put q m xs (λ j t at e. (let no : suc j ≡ 0 = only (suc j) t at e in absurd (omega (arith, no)))) in
    rw (here, rest) (ap (λ (t : SenderLedger). posting t q m ∷ xs) (sym (same_Some x s is)))
put_here q m (x ∷ xs) (suc k) s is leads only = by (eqb x.inbox.comp.0 q.to.comp.0) refl (put_here q m xs k s is leads less) where
  less : (j : ℕ) (t : SenderLedger) → slice_get xs j ≡ Some t → eqb t.inbox.comp.0 q.to.comp.0 ≡ true → j ≡ k
  less j t at e = let h : suc j ≡ suc k = only (suc j) t at e in omega (arith, h)

  by : (b : Bool) → eqb x.inbox.comp.0 q.to.comp.0 ≡ b → slice_set xs k (posting s q m) ≡ map (put_on q m) xs
      → x ∷ slice_set xs k (posting s q m) ≡ cond b (posting x q m) x ∷ map (put_on q m) xs
  by true e rest = let no : 0 ≡ suc k = only 0 x refl e in absurd (omega (arith, no))
  by false e rest = ap (λ l. x ∷ l) rest

-- the inboxes and routes stay where one sender is replaced by another with its inbox and routes
abbrev SenderEnd : Type 0
SenderEnd = Inbox × CompId × List RouteId

kept_end : (ss : List SenderLedger) (k : ℕ) (s y : SenderLedger) → slice_get ss k ≡ Some s → end_of s ≡ end_of y → (j : ℕ) (t : SenderLedger)
    → slice_get (slice_set ss k y) j ≡ Some t → (u : SenderLedger) × (slice_get ss j ≡ Some u) × (end_of u ≡ end_of t)
kept_end [] k s y at on j t got = absurd (cc)
kept_end (x ∷ xs) zero s y at on zero t got = (x, refl, ap end_of (same_Some x s at) ∙ on ∙ ap end_of (same_Some y t got))
kept_end (x ∷ xs) zero s y at on (suc j) t got = (t, got, refl)
kept_end (x ∷ xs) (suc k) s y at on zero t got = (t, got, refl)
kept_end (x ∷ xs) (suc k) s y at on (suc j) t got = kept_end xs k s y at on j t got

-- which component a sender's inbox is of
comp_of_end : (s t : SenderLedger) → end_of s ≡ end_of t → s.inbox.comp ≡ t.inbox.comp
comp_of_end s t e = ap (λ (x : SenderEnd). x.0.comp) e

backs : (ss : List SenderLedger) (k : ℕ) (s y : SenderLedger) (loops : List ℕ) → slice_get ss k ≡ Some s → end_of s ≡ end_of y
    → All (λ j. (t : SenderLedger) → slice_get ss j ≡ Some t → LeadsBack t) loops
    → All (λ j. (t : SenderLedger) → slice_get (slice_set ss k y) j ≡ Some t → LeadsBack t) loops
backs ss k s y [] at on h = All-nil (λ j. (t : SenderLedger) → slice_get (slice_set ss k y) j ≡ Some t → LeadsBack t)
backs ss k s y (j ∷ js) at on h =
    All-cons (λ j. (t : SenderLedger) → slice_get (slice_set ss k y) j ≡ Some t → LeadsBack t) j js
    (λ t got. let u = kept_end ss k s y at on j t got in subst (λ (x : SenderEnd). x.0.comp ≡ x.1) u.2
    (All-head (λ j. (t : SenderLedger) → slice_get ss j ≡ Some t → LeadsBack t) j js h u.0 u.1))
    (backs ss k s y js at on (All-tail (λ j. (t : SenderLedger) → slice_get ss j ≡ Some t → LeadsBack t) j js h))

-- so each route is found as before
pub filed_put : {S : Type 0} (ss : List SenderLedger) (places : IndexMap RouteId RoutePlace S) (loops : List ℕ) (k : ℕ) (s y : SenderLedger)
    → slice_get ss k ≡ Some s → end_of s ≡ end_of y → AreSendersFiled ss places loops → AreSendersFiled (slice_set ss k y) places loops
filed_put ss places loops k s y at on filed = record {
  found = λ j t got. let u = kept_end ss k s y at on j t got in
      subst (λ (x : SenderEnd). AreFiledAt (length x.2) x.2 j places) u.2 (filed.found j u.0 u.1);
  aimed = All-set IsAimed ss k y
      (subst (λ (x : SenderEnd). All (λ (r : RouteId). r.to.comp ≡ x.0.comp) x.2) on
      (All-contains IsAimed ss s filed.aimed (contained ss k s at))) filed.aimed;
  apart = λ i j a b got had same.
      let u = kept_end ss k s y at on i a got in
      let v = kept_end ss k s y at on j b had in
      filed.apart i j u.0 v.0 u.1 v.1 (comp_of_end u.0 a u.2 ∙ same ∙ sym (comp_of_end v.0 b v.2));
  within = subst (λ n. All (λ j. j < n) loops) (sym (length-set ss k y)) filed.within;
  back = backs ss k s y loops at on filed.back;
  listed = λ j t got back. let u = kept_end ss k s y at on j t got in
      filed.listed j u.0 u.1 (subst (λ (x : SenderEnd). x.0.comp ≡ x.1) (sym u.2) back);
}

-- a sender keeps its inbox and its routes, whatever came of a put
pub same_way : {A E : Type 0} (B : Type 0) (s y : SenderLedger) (w : ℕ) (m : Stamped) (res : Result A E) → OnOk res (y ≡ putting s w m)
    → OnErr res (B × (y ≡ s)) → end_of s ≡ end_of y
same_way B s y w m (Ok x) put same = ap end_of (sym put)
same_way B s y w m (Err e) put same = ap end_of (sym same.1)

-- a sender's routes lead to the component of its inbox
pub leads_there : {S : Type 0} (ss : List SenderLedger) (places : IndexMap RouteId RoutePlace S) (loops : List ℕ) (k w : ℕ) (s : SenderLedger) (q : RouteId)
    → AreSendersFiled ss places loops → slice_get ss k ≡ Some s → slice_get s.routes w ≡ Some q → q.to.comp ≡ s.inbox.comp
leads_there ss places loops k w s q filed at on =
    All-contains (λ (r : RouteId). r.to.comp ≡ s.inbox.comp) s.routes q
    (All-contains IsAimed ss s filed.aimed (contained ss k s at)) (contained s.routes w q on)

-- where the sender that was found is full, the one with the route is
pub full_on : {A E : Type 0} (p : E → Type 0) (senders : List SenderLedger) (q : RouteId) (s : SenderLedger) (res : Result A E)
    → Contains senders s → Contains s.routes q → IfErr res (λ f. p f → 100000 ≤ length (posted_on q s.ledger)) → IfErr res (λ f. p f → IsRouteFull q senders)
full_on p senders q s (Ok x) there on full = tt
full_on p senders q s (Err f) there on full = λ met. (s, there, on, full met)

-- what was put, by the sender that is found, and noted at the desk
pub has_put : {S A E : Type 0} (ss : List SenderLedger) (places : IndexMap RouteId RoutePlace S) (loops : List ℕ) (k w : ℕ) (s y : SenderLedger) (q : RouteId)
    (m : Stamped) (d e : Journal) (res : Result A E)
    → slice_get ss k ≡ Some s → route_at s.routes w ≡ q → q.to.comp ≡ s.inbox.comp → AreSendersFiled ss places loops
    → OnOk res (e ≡ adding d (entry.Sent (route_at s.routes w) (length (put_on_way s w)) m)) → OnOk res (y ≡ putting s w m)
    → OnOk res ((n : ℕ) × HasPut q m n ss (slice_set ss k y) × (e ≡ adding d (entry.Sent q n m)))
has_put ss places loops k w s y q m d e (Ok x) at on leads filed noted put = (
  length (posted_on q s.ledger),
  (
    (s, contained ss k s at, leads, refl),
    ap (λ z. slice_set ss k z) (put ∙ ap (λ r. posting s r m) on) ∙ put_here q m ss k s at leads only,
  ),
  noted ∙ ap (λ r. adding d (entry.Sent r (length (posted_on r s.ledger)) m)) on,
)
  where
    only : (j : ℕ) (t : SenderLedger) → slice_get ss j ≡ Some t → eqb t.inbox.comp.0 q.to.comp.0 ≡ true → j ≡ k
    only j t got same =
        filed.apart j k t s got at (same_comp t.inbox.comp q.to.comp (eqb-true t.inbox.comp.0 q.to.comp.0 same) ∙ leads)
has_put ss places loops k w s y q m d e (Err x) at on leads filed noted put = tt

-- what stands in a list with one more at its end
last_or_before : {X : Type 0} (xs : List X) (x : X) (k : ℕ) (y : X) → slice_get (xs ++ x ∷ []) k ≡ Some y → (slice_get xs k ≡ Some y)
    ⊎ ((k ≡ length xs) × (x ≡ y))
last_or_before [] x zero y got = inr (refl, same_Some x y got)
last_or_before [] x (suc k) y got = absurd (cc)
last_or_before (z ∷ xs) x zero y got = inl got
last_or_before (z ∷ xs) x (suc k) y got = elim (last_or_before xs x k y got) [ inl h ↦ inl h | inr h ↦ inr (ap suc h.0, h.1) ]

-- at a place within the list it is what stood there
still_there : {X : Type 0} (xs : List X) (x : X) (k : ℕ) → k < length xs → slice_get (xs ++ x ∷ []) k ≡ slice_get xs k
still_there [] x k below = absurd (omega arith)
still_there (z ∷ xs) x zero below = refl
still_there (z ∷ xs) x (suc k) below = still_there xs x k (omega arith)

at_end : {X : Type 0} (xs : List X) (x : X) → slice_get (xs ++ x ∷ []) (length xs) ≡ Some x
at_end [] x = refl
at_end (z ∷ xs) x = at_end xs x

-- of routes that differ, `==` answers no
pub other_route : (r q : RouteId) → (q ≡ r → ⊥) → route_eq r q ≡ false
other_route r q apart = by (route_eq r q) refl where
  by : (b : Bool) → route_eq r q ≡ b → b ≡ false
  by true e =
      let g = and_parts (eqb r.source.0 q.source.0) (eqb r.to.comp.0 q.to.comp.0 && eqb r.to.port q.to.port) e in
      let h = and_parts (eqb r.to.comp.0 q.to.comp.0) (eqb r.to.port q.to.port) g.1 in
      let same = and_from (eqb r.source.0 q.source.0 && eqb r.to.comp.0 q.to.comp.0) (eqb r.to.port q.to.port)
      (and_from (eqb r.source.0 q.source.0) (eqb r.to.comp.0 q.to.comp.0) g.0 h.0) h.1 in
      absurd (apart (sym (route_same r q same)))
  by false e = refl

-- the places of those that lead back, with one more
within_more : (ss : List SenderLedger) (s : SenderLedger) (loops : List ℕ) (k : ℕ) (b : Bool) → All (λ j. j < length ss) loops → k ≡ length ss
    → All (λ j. j < length (ss ++ s ∷ [])) (cond b (loops ++ k ∷ []) loops)
within_more ss s loops k true within last =
    All-push (λ j. j < length (ss ++ s ∷ [])) loops k (λ i d below. (let h = within i d below in omega (arith, h, length-append ss (s ∷ []))))
    (omega (arith, last, length-append ss (s ∷ [])))
within_more ss s loops k false within last = λ i d below. (let h = within i d below in omega (arith, h, length-append ss (s ∷ [])))

back_still : (ss : List SenderLedger) (s : SenderLedger) (loops : List ℕ) → All (λ j. j < length ss) loops
    → All (λ j. (t : SenderLedger) → slice_get ss j ≡ Some t → LeadsBack t) loops
    → All (λ j. (t : SenderLedger) → slice_get (ss ++ s ∷ []) j ≡ Some t → LeadsBack t) loops
back_still ss s loops within back i d below t got = back i d below t (sym (still_there ss s (get_or loops i d) (within i d below)) ∙ got)

back_more : (ss : List SenderLedger) (s : SenderLedger) (loops : List ℕ) (k : ℕ) (b : Bool) → eqb s.inbox.comp.0 s.source.0 ≡ b → All (λ j. j < length ss) loops
    → All (λ j. (t : SenderLedger) → slice_get ss j ≡ Some t → LeadsBack t) loops → k ≡ length ss
    → All (λ j. (t : SenderLedger) → slice_get (ss ++ s ∷ []) j ≡ Some t → LeadsBack t) (cond b (loops ++ k ∷ []) loops)
back_more ss s loops k true leads within back last =
    All-push (λ j. (t : SenderLedger) → slice_get (ss ++ s ∷ []) j ≡ Some t → LeadsBack t) loops k (back_still ss s loops within back)
    (λ t got.
    let same : s ≡ t = same_Some s t (sym (at_end ss s) ∙ ap (slice_get (ss ++ s ∷ [])) (sym last) ∙ got) in
    subst LeadsBack same (same_comp s.inbox.comp s.source (eqb-true s.inbox.comp.0 s.source.0 leads)))
back_more ss s loops k false leads within back last = back_still ss s loops within back

listed_still : (loops : List ℕ) (k j : ℕ) (b : Bool) → Contains loops j → Contains (cond b (loops ++ k ∷ []) loops) j
listed_still loops k j true there = Contains-append_left loops (k ∷ []) j there
listed_still loops k j false there = there

listed_last : (s : SenderLedger) (loops : List ℕ) (k : ℕ) (b : Bool) → eqb s.inbox.comp.0 s.source.0 ≡ b → LeadsBack s
    → Contains (cond b (loops ++ k ∷ []) loops) k
listed_last s loops k true is back = Contains-push loops k
listed_last s loops k false is back =
    absurd (true≢false (sym (eq-eqb s.inbox.comp.0 s.source.0 (ap (λ (c : CompId). c.0) back)) ∙ is))

-- routes into another inbox are none of this sender's
other_inbox : (s t : SenderLedger) (r : RouteId) → t.inbox.comp ≢ s.inbox.comp → r.to.comp ≡ t.inbox.comp → IsAimed s
    → All (λ (q : RouteId). q ≢ r) s.routes
other_inbox s t r apart there aimed i d few same = apart (sym there ∙ ap (λ (q : RouteId). q.to.comp) (sym same) ∙ aimed i d few)

-- each route of those that were there is found as before, once routes into another inbox are filed
still_filed : {S : Type 0} (ss : List SenderLedger) (places after : IndexMap RouteId RoutePlace S) (loops : List ℕ) (s : SenderLedger)
    → AreSendersFiled ss places loops → All (λ (x : SenderLedger). x.inbox.comp ≢ s.inbox.comp) ss → IsAimed s → KeepsOtherRoutes s.routes places after
    → (j : ℕ) (t : SenderLedger) → slice_get ss j ≡ Some t → AreFiledAt (length t.routes) t.routes j after
still_filed ss places after loops s filed apart aimed keeps j t got w r below here =
    let there : Contains ss t = contained ss j t got in
    keeps r
    (other_inbox s t r (All-contains (λ (x : SenderLedger). x.inbox.comp ≢ s.inbox.comp) ss t apart there)
    (All-contains (λ (q : RouteId). q.to.comp ≡ t.inbox.comp) t.routes r (All-contains IsAimed ss t filed.aimed there) (contained t.routes w r here))
    aimed) ∙ filed.found j t got w r below here

-- so it is with all of them, where the sender isn't added in the end
pub filed_still : {S : Type 0} (ss : List SenderLedger) (places after : IndexMap RouteId RoutePlace S) (loops : List ℕ) (s : SenderLedger)
    → AreSendersFiled ss places loops → All (λ (x : SenderLedger). x.inbox.comp ≢ s.inbox.comp) ss → IsAimed s → KeepsOtherRoutes s.routes places after
    → AreSendersFiled ss after loops
filed_still ss places after loops s filed apart aimed keeps = record {
  found = still_filed ss places after loops s filed apart aimed keeps;
  aimed = filed.aimed;
  apart = filed.apart;
  within = filed.within;
  back = filed.back;
  listed = filed.listed;
}

-- each is found as before where one more is filed, and so is that one
pub filed_more : {S : Type 0} (ss : List SenderLedger) (places after : IndexMap RouteId RoutePlace S) (loops listed : List ℕ) (k : ℕ) (s : SenderLedger)
    → AreSendersFiled ss places loops → All (λ (x : SenderLedger). x.inbox.comp ≢ s.inbox.comp) ss → IsAimed s → k ≡ length ss
    → AreFiledAt (length s.routes) s.routes k after → KeepsOtherRoutes s.routes places after → IsListed s k loops listed
    → AreSendersFiled (ss ++ s ∷ []) after listed
filed_more ss places after loops listed k s filed apart aimed last new keeps more =
    let back = eqb s.inbox.comp.0 s.source.0 in
    let unlike = λ (t : SenderLedger) (c : Contains ss t). All-contains (λ (x : SenderLedger). x.inbox.comp ≢ s.inbox.comp) ss t apart c in
    subst (AreSendersFiled (ss ++ s ∷ []) after) (sym more)
    record {
      found = λ j t got.
          elim (last_or_before ss s j t got) [
            | inl at ↦ still_filed ss places after loops s filed apart aimed keeps j t at
            | inr at ↦ subst (λ (x : ℕ × SenderLedger). AreFiledAt (length x.1.routes) x.1.routes x.0 after) (λ i. ((last ∙ sym at.0) i, at.1 i)) new
          ];
      aimed = All-push IsAimed ss s filed.aimed aimed;
      apart = λ i j a b got had same.
          elim (last_or_before ss s i a got) [
            | inl at ↦ elim (last_or_before ss s j b had) [
              | inl to ↦ filed.apart i j a b at to same
              | inr to ↦ absurd (unlike a (contained ss i a at) (same ∙ ap (λ (x : SenderLedger). x.inbox.comp) (sym to.1)))
            ]
            | inr at ↦ elim (last_or_before ss s j b had) [
              | inl to ↦ absurd (unlike b (contained ss j b to) (sym same ∙ ap (λ (x : SenderLedger). x.inbox.comp) (sym at.1)))
              | inr to ↦ at.0 ∙ sym to.0
            ]
          ];
      within = within_more ss s loops k back filed.within last;
      back = back_more ss s loops k back refl filed.within filed.back last;
      listed = λ j t got leads.
          elim (last_or_before ss s j t got) [
            | inl at ↦ listed_still loops k j back (filed.listed j t at leads)
            | inr at ↦ subst (Contains (cond back (loops ++ k ∷ []) loops)) (last ∙ sym at.0)
                (listed_last s loops k back refl (subst LeadsBack (sym at.1) leads))
          ];
    }
