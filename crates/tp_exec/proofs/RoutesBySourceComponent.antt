-- The components from which routes lead, and the routes of each.
use Rattle.std.proofs.Common.{◌≡◌, ◌≢◌, ◌⊎◌, inl, inr, ℕ, zero, suc, ◌<◌, Bool, true, false, true≢false, cond, eqb, eq-eqb, ne_eqb, List, [], ◌∷◌, ◌++◌, Contains, take, length, refl, sym, ap, ◌∙◌, subst, arith}
use Rattle.std.specs.Prelude.{◌==◌, ◌||◌, AllPairs}
use Rattle.std.specs.List.{list_any}
use Rattle.std.proofs.lemmas.Bool.{cases_Bool, eqb-false, eqb-true}
use Rattle.std.proofs.lemmas.List.Elements.{Contains-append_left, Contains-push, Contains-push_cases}
use Rattle.std.proofs.Math.Seq.{take-suc}
use Rattle.indexmap.specs.IndexSet.{insert_key}
use Rattle.tp_config.specs.declared.port_type.CompId.{CompId}
use Rattle.tp_config.specs.declared.port_type.RouteId.{RouteId}
use Rattle.tp_config.specs.contracts.port_type.CompIdPartialEq.TheImpl.{eq-value}
use Rattle.tp_inbox.specs.Routed.{absent_route, route_at, routes_by, sources_behind, sources_of, with_source}
use Rattle.tp_inbox.proofs.SenderPutInvariants.{or_first, or_second}
use Rattle.tp_exec.proofs.PairwiseDifferentElements.{append_pairs, passed, passes}

-- whether a component is one of these
abbrev is_among : CompId → List CompId → Bool
is_among c cs = list_any (λ (s : CompId). s.0 == c.0) cs

-- it is where it is found
pub found_there : (cs : List CompId) (c : CompId) → is_among c cs ≡ true → Contains cs c
found_there [] c h = absurd (true≢false (sym h))
found_there (x ∷ xs) c h = by (eqb x.0 c.0) refl (λ e. found_there xs c (sym (ap (λ b. b || is_among c xs) e) ∙ h))
  where
    by : (b : Bool) → eqb x.0 c.0 ≡ b → (eqb x.0 c.0 ≡ false → Contains xs c) → Contains (x ∷ xs) c
    by true e rest =
        let same : x ≡ c = λ i. record { 0 = eqb-true x.0 c.0 e i } in
        subst (Contains (x ∷ xs)) same (0, omega arith, refl)
    by false e rest = let w = rest e in let low = w.1 in (suc w.0, omega arith, w.2)

-- and found where it is
there_found : (cs : List CompId) (c : CompId) → Contains cs c → is_among c cs ≡ true
there_found [] c h = absurd (omega (arith, h.1))
there_found (x ∷ xs) c (zero, low, is) = or_first (eqb x.0 c.0) (is_among c xs) (eq-eqb x.0 c.0 (ap (λ (d : CompId). d.0) is))
there_found (x ∷ xs) c (suc k, low, is) = or_second (eqb x.0 c.0) (is_among c xs) (there_found xs c (k, omega arith, is))

-- one component more, if it is none of these
with_kept : (cs : List CompId) (d c : CompId) → Contains cs c → Contains (with_source cs d) c
with_kept cs d c h = by (is_among d cs) where
  by : (b : Bool) → Contains (cond b cs (cs ++ d ∷ [])) c
  by true = h
  by false = Contains-append_left cs (d ∷ []) c h

with_itself : (cs : List CompId) (c : CompId) → Contains (with_source cs c) c
with_itself cs c = by (is_among c cs) refl where
  by : (b : Bool) → is_among c cs ≡ b → Contains (cond b cs (cs ++ c ∷ [])) c
  by true e = found_there cs c e
  by false e = Contains-push cs c

with_cases : (cs : List CompId) (d c : CompId) → Contains (with_source cs d) c → Contains cs c ⊎ (d ≡ c)
with_cases cs d c = by (is_among d cs) where
  by : (b : Bool) → Contains (cond b cs (cs ++ d ∷ [])) c → Contains cs c ⊎ (d ≡ c)
  by true h = inl h
  by false h = Contains-push_cases cs d c h

with_apart : (cs : List CompId) (d : CompId) → AllPairs (λ a b. a ≢ b) cs → AllPairs (λ a b. a ≢ b) (with_source cs d)
with_apart cs d h = by (is_among d cs) refl where
  only : (x : CompId) → Contains (d ∷ []) x → d ≡ x
  only x (zero, low, is) = is
  only x (suc k, low, is) = absurd (omega (arith, low))

  by : (b : Bool) → is_among d cs ≡ b → AllPairs (λ a b. a ≢ b) (cond b cs (cs ++ d ∷ []))
  by true e = h
  by false e =
      append_pairs (λ a b. a ≢ b) cs (d ∷ []) h (λ i j x below within. absurd (omega (arith, below, within)))
      (λ x y here last same. true≢false (sym (there_found cs d (subst (Contains cs) (same ∙ sym (only y last)) here)) ∙ e))

-- the components of these routes, and those before them
kept_behind : (cs : List CompId) (rs : List RouteId) (c : CompId) → Contains cs c → Contains (sources_behind cs rs) c
kept_behind cs [] c h = h
kept_behind cs (r ∷ rs) c h = kept_behind (with_source cs r.source) rs c (with_kept cs r.source c h)

there_behind : (cs : List CompId) (rs : List RouteId) (r : RouteId) → Contains rs r → Contains (sources_behind cs rs) r.source
there_behind cs [] r h = absurd (omega (arith, h.1))
there_behind cs (q ∷ rs) r (zero, low, is) =
    kept_behind (with_source cs q.source) rs r.source (subst (λ (x : RouteId). Contains (with_source cs q.source) x.source) is (with_itself cs q.source))
there_behind cs (q ∷ rs) r (suc k, low, is) = there_behind (with_source cs q.source) rs r (k, omega arith, is)

-- the route comes from this component
abbrev IsOneFrom : List RouteId → CompId → Type 0
IsOneFrom rs c = (r : RouteId) × Contains rs r × (r.source ≡ c)

came_behind : (cs : List CompId) (rs : List RouteId) (c : CompId) → Contains (sources_behind cs rs) c → Contains cs c ⊎ IsOneFrom rs c
came_behind cs [] c h = inl h
came_behind cs (q ∷ rs) c h = by (came_behind (with_source cs q.source) rs c h)
  where
    first : Contains cs c ⊎ (q.source ≡ c) → Contains cs c ⊎ IsOneFrom (q ∷ rs) c
    first (inl g) = inl g
    first (inr e) = inr (q, (0, omega arith, refl), e)

    by : Contains (with_source cs q.source) c ⊎ IsOneFrom rs c → Contains cs c ⊎ IsOneFrom (q ∷ rs) c
    by (inl g) = first (with_cases cs q.source c g)
    by (inr w) = let low = w.1.1 in inr (w.0, (suc w.1.0, omega arith, w.1.2), w.2)

apart_behind : (cs : List CompId) (rs : List RouteId) → AllPairs (λ a b. a ≢ b) cs → AllPairs (λ a b. a ≢ b) (sources_behind cs rs)
apart_behind cs [] h = h
apart_behind cs (r ∷ rs) h = apart_behind (with_source cs r.source) rs (with_apart cs r.source h)

-- the component of each of these routes is one of theirs
pub source_there : (rs : List RouteId) (r : RouteId) → Contains rs r → Contains (sources_of rs) r.source
source_there rs r h = there_behind [] rs r h

-- each of theirs is that of one
pub source_from : (rs : List RouteId) (c : CompId) → Contains (sources_of rs) c → (r : RouteId) × Contains rs r × (r.source ≡ c)
source_from rs c h = by (came_behind [] rs c h) where
  by : Contains [] c ⊎ IsOneFrom rs c → IsOneFrom rs c
  by (inl g) = absurd (omega (arith, g.1))
  by (inr w) = w

-- and no two are equal
pub sources_apart : (rs : List RouteId) → AllPairs (λ a b. a ≢ b) (sources_of rs)
sources_apart rs = apart_behind [] rs (λ i j d below within. absurd (omega (arith, within)))

-- a component is one of theirs, or is none
pub source_or_not : (rs : List RouteId) (c : CompId) → Contains (sources_of rs) c ⊎ ((r : RouteId) → Contains rs r → r.source ≢ c)
source_or_not rs c = by (cases_Bool (is_among c (sources_of rs))) where
  by : (is_among c (sources_of rs) ≡ true) ⊎ (is_among c (sources_of rs) ≡ false) → Contains (sources_of rs) c
      ⊎ ((r : RouteId) → Contains rs r → r.source ≢ c)
  by (inl e) = inl (found_there (sources_of rs) c e)
  by (inr e) = inr (λ r h from. true≢false (sym (there_found (sources_of rs) c (subst (Contains (sources_of rs)) from (source_there rs r h))) ∙ e))

-- a route from the component is one of those from it
pub among_by : (c : CompId) (rs : List RouteId) (r : RouteId) → Contains rs r → r.source ≡ c → Contains (routes_by c rs) r
among_by c rs r h from =
    passes (λ (q : RouteId). c.0 == q.source.0) rs r h (eq-eqb c.0 r.source.0 (ap (λ (d : CompId). d.0) (sym from)))

-- and those from it are of the routes, and come from it
pub by_among : (c : CompId) (rs : List RouteId) (r : RouteId) → Contains (routes_by c rs) r → Contains rs r × (r.source ≡ c)
by_among c rs r h =
    let w = passed (λ (q : RouteId). c.0 == q.source.0) rs r h in
    (w.0, λ i. record { 0 = sym (eqb-true c.0 r.source.0 w.1) i })

-- the components are found by a set that keeps its order
either_side : (a b : CompId) → eq-value.it a b ≡ (b.0 == a.0)
either_side a b = by (cases_Bool (eqb a.0 b.0)) where
  by : (eqb a.0 b.0 ≡ true) ⊎ (eqb a.0 b.0 ≡ false) → eqb a.0 b.0 ≡ eqb b.0 a.0
  by (inl e) = e ∙ sym (eq-eqb b.0 a.0 (sym (eqb-true a.0 b.0 e)))
  by (inr e) = e ∙ sym (ne_eqb b.0 a.0 (λ f. eqb-false a.0 b.0 e (sym f)))

found_so : (cs : List CompId) (c : CompId) → list_any (eq-value.it c) cs ≡ is_among c cs
found_so [] c = refl
found_so (x ∷ xs) c = λ i. either_side c x i || found_so xs c i

inserted : (cs : List CompId) (c : CompId) → insert_key eq-value.it cs c ≡ with_source cs c
inserted cs c = ap (λ b. cond b cs (cs ++ c ∷ [])) (found_so cs c)

one_more_behind : (cs : List CompId) (rs : List RouteId) (r : RouteId) → sources_behind cs (rs ++ r ∷ []) ≡ with_source (sources_behind cs rs) r.source
one_more_behind cs [] r = refl
one_more_behind cs (q ∷ rs) r = one_more_behind (with_source cs q.source) rs r

-- with one route more, its component is inserted
pub next_source : (rs : List RouteId) (n m : ℕ) (keys after : List CompId) → n < length rs → m ≡ suc n → keys ≡ sources_of (take n rs)
    → after ≡ insert_key eq-value.it keys (route_at rs n).source → after ≡ sources_of (take m rs)
next_source rs n m keys after low next were now =
    let r = route_at rs n in
    now ∙ inserted keys r.source ∙ ap (λ cs. with_source cs r.source) were ∙ sym (one_more_behind [] (take n rs) r)
    ∙ ap sources_of (sym (take-suc rs n absent_route low)) ∙ ap (λ k. sources_of (take k rs)) (sym next)
