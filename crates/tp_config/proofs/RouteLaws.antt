-- The routes of a configuration differ, and each determines the port that sends on it.
use Rattle.std.proofs.Common.{◌≡◌, ◌≢◌, ℕ, zero, suc, ◌<◌, ◌≤◌, inl, inr, Option, Some, None, List, [], ◌∷◌, ◌++◌, length, get_or, map, refl, ap, sym, ◌∙◌, subst, arith}
use Rattle.std.specs.Prelude.{All, AllPairs, Contains, IfOk, MatchResult, Result, Ok, Err, slice_get}
use Rattle.std.specs.Option.{option_map_or}
use Rattle.std.proofs.lemmas.Bool.{cases_lt}
use Rattle.std.proofs.lemmas.List.{get_or-map, get_or_past, length-map}
use Rattle.std.proofs.lemmas.List.Elements.{All-append, Contains-append_cases, Contains-append_left, Contains-append_right, Contains-get_or}
use Rattle.tp_config.specs.declared.port_type.CompId.{CompId}
use Rattle.tp_config.specs.declared.port_type.PortRef.{PortRef}
use Rattle.tp_config.specs.declared.port_type.RouteId.{RouteId}
use Rattle.tp_config.specs.declared.routes.RouteFault.{RouteFault}
use Rattle.tp_config.specs.Pairs.{partner, partners}
use Rattle.tp_config.specs.Setup.{Setup, PortDecl, Member, IsPort, ports_at}
use Rattle.tp_config.specs.Allowed.{ArePorts, IsSetup}
use Rattle.tp_config.specs.Routes.{AreDistinctRoutes, AreRoutesInto, IsRouteOf, RouteCauseOf, SendersAreDetermined, beside, route_to, routes_below, routes_from, routes_into}
use Rattle.tp_config.specs.Links.{links_at, routes_kept}
use Rattle.tp_config.specs.Kept.{KeepsPairs}
use Rattle.tp_config.proofs.CreateTestsDecideCauses.{Contains-here, Contains-later, Contains-split}
use Rattle.tp_config.proofs.PortPartnerLaws.{beside_back, beside_distinct, beside_of_one, cons_cases, pair_cases}
use Rattle.tp_config.proofs.InvariantsAfterNewPair.{port_within}

-- an element of a mapped list comes from one of the list
pub map_cases : {X Y : Type 0} (f : X → Y) (xs : List X) (y : Y) → Contains (map f xs) y → (x : X) × Contains xs x × (f x ≡ y)
map_cases f [] y h = absurd (omega (arith, h.1))
map_cases f (x ∷ xs) y h =
    elim (Contains-split y (f x) (map f xs) h.0 h.1 h.2) [
      | inl e ↦ (x, Contains-here x xs, e)
      | inr rest ↦ let w = map_cases f xs y rest in (w.0, Contains-later w.0 x xs w.1, w.2)
    ]

pub map_contains : {X Y : Type 0} (f : X → Y) (xs : List X) (x : X) → Contains xs x → Contains (map f xs) (f x)
map_contains f [] x h = absurd (omega (arith, h.1))
map_contains f (z ∷ xs) x h =
    elim (Contains-split x z xs h.0 h.1 h.2) [
      | inl e ↦ subst (λ y. Contains (map f (z ∷ xs)) (f y)) e (Contains-here (f z) (map f xs))
      | inr rest ↦ Contains-later (f x) (f z) (map f xs) (map_contains f xs x rest)
    ]

-- elements that differ stay different under f, where f tells the elements of the list apart
map_distinct : {X Y : Type 0} (f : X → Y) (xs : List X) → ((x y : X) → Contains xs x → Contains xs y → f x ≡ f y → x ≡ y) → AllPairs (λ x y. x ≢ y) xs
    → AllPairs (λ x y. x ≢ y) (map f xs)
map_distinct f [] apart d = λ i j e below n. absurd (omega (arith, n))
map_distinct f (x ∷ xs) apart d = λ i j e below n.
    let m : j < length (x ∷ xs) = omega (arith, n, length-map (x ∷ xs) f) in
    let at_i = get_or-map f (x ∷ xs) i x e (omega (arith, below, m)) in
    let at_j = get_or-map f (x ∷ xs) j x e m in
    λ same. d i j x below m (apart (get_or (x ∷ xs) i x) (get_or (x ∷ xs) j x) (Contains-get_or (x ∷ xs) i x (omega (arith, below, m)))
    (Contains-get_or (x ∷ xs) j x m) (sym at_i ∙ same ∙ at_j))

-- two lists of different elements, none of which is in both
append_distinct : {X : Type 0} (xs ys : List X) → AllPairs (λ x y. x ≢ y) xs → AllPairs (λ x y. x ≢ y) ys
    → ((x : X) → Contains xs x → Contains ys x → ⊥) → AllPairs (λ x y. x ≢ y) (xs ++ ys)
append_distinct {X = X} [] ys d e apart = e
append_distinct {X = X} (x ∷ xs) ys d e apart =
    let rest = append_distinct xs ys (λ i j z below n. d (suc i) (suc j) z (omega (arith, below)) (omega (arith, n))) e
    (λ y hx hy. apart y (Contains-later y x xs hx) hy) in
    λ i j z below n. at rest i j z below n
  where
    first : (j : ℕ) (z : X) → j < length (xs ++ ys) → x ≡ get_or (xs ++ ys) j z → ⊥
    first j z n same =
        elim (Contains-append_cases xs ys x (subst (Contains (xs ++ ys)) (sym same) (Contains-get_or (xs ++ ys) j z n))) [
          | inl hx ↦ d 0 (suc hx.0) x (omega arith) (omega (arith, hx.1)) (sym hx.2)
          | inr hy ↦ apart x (Contains-here x xs) hy
        ]

    at : AllPairs (λ x y. x ≢ y) (xs ++ ys) → (i j : ℕ) (z : X) → i < j → j < length (x ∷ (xs ++ ys))
        → get_or (x ∷ (xs ++ ys)) i z ≢ get_or (x ∷ (xs ++ ys)) j z
    at rest zero zero z below n = absurd (omega (arith, below))
    at rest zero (suc j) z below n = first j z (omega (arith, n))
    at rest (suc i) zero z below n = absurd (omega (arith, below))
    at rest (suc i) (suc j) z below n = rest i j z (omega (arith, below)) (omega (arith, n))

port_at : CompId → ℕ → PortRef
port_at c n = record { comp = c; port = n }

pub from_distinct : (s : Setup) → IsSetup s → (p : PortRef) → AreDistinctRoutes (routes_from s p)
unfolding routes_from
from_distinct s l p = map_distinct (route_to p) (beside s p) (λ q r _ _ e. ap (λ (x : RouteId). x.to) e) (beside_distinct s l p)

pub senders : (s : Setup) → IsSetup s → SendersAreDetermined s
unfolding routes_from
senders s l p q r hp hq =
    let u = map_cases (route_to p) (beside s p) r hp in
    let v = map_cases (route_to q) (beside s q) r hq in
    let to : u.0 ≡ v.0 = ap (λ (x : RouteId). x.to) (u.2 ∙ sym v.2) in
    beside_of_one s l.allowed u.0 p q (beside_back s p u.0 u.1) (subst (λ x. Contains (beside s x) q) (sym to) (beside_back s q v.0 v.1))
    (ap (λ (x : RouteId). x.source) (u.2 ∙ sym v.2))

-- a route below ends below
below_cases : (s : Setup) (c : CompId) (n : ℕ) (r : RouteId) → Contains (routes_below s c n) r
    → (k : ℕ) × (q : PortRef) × (k < n) × Contains (beside s (port_at c k)) q × (route_to q (port_at c k) ≡ r)
unfolding port_at
below_cases s c zero r h = absurd (omega (arith, h.1))
below_cases s c (suc n) r h =
    elim (Contains-append_cases (routes_below s c n) (map (λ q. route_to q (port_at c n)) (beside s (port_at c n))) r h) [
      | inl old ↦ let w = below_cases s c n r old in (w.0, w.1, omega (arith, w.2), w.3, w.4)
      | inr new ↦ let w = map_cases (λ q. route_to q (port_at c n)) (beside s (port_at c n)) r new in (n, w.0, omega arith, w.1, w.2)
    ]

below_contains : (s : Setup) (c : CompId) (n k : ℕ) (q : PortRef) → k < n → Contains (beside s (port_at c k)) q
    → Contains (routes_below s c n) (route_to q (port_at c k))
unfolding port_at
below_contains s c zero k q below h = absurd (omega (arith, below))
below_contains s c (suc n) k q below h =
    elim (cases_lt k n) [
      | inl less ↦ Contains-append_left (routes_below s c n) (map (λ q. route_to q (port_at c n)) (beside s (port_at c n))) (route_to q (port_at c k))
          (below_contains s c n k q less h)
      | inr not ↦ let same : k ≡ n = omega arith in
          subst (λ i. Contains (routes_below s c (suc n)) (route_to q (port_at c i))) (sym same)
          (Contains-append_right (routes_below s c n) (map (λ q. route_to q (port_at c n)) (beside s (port_at c n))) (route_to q (port_at c n))
          (map_contains (λ q. route_to q (port_at c n)) (beside s (port_at c n)) q (subst (λ i. Contains (beside s (port_at c i)) q) same h)))
    ]

below_distinct : (s : Setup) → IsSetup s → (c : CompId) (n : ℕ) → AreDistinctRoutes (routes_below s c n)
unfolding port_at
below_distinct s l c zero = λ i j e below n. absurd (omega (arith, n))
below_distinct s l c (suc n) =
    let p = port_at c n in
    append_distinct (routes_below s c n) (map (λ q. route_to q p) (beside s p)) (below_distinct s l c n)
    (map_distinct (λ q. route_to q p) (beside s p) (λ q r hq hr e. beside_of_one s l.allowed p q r hq hr (ap (λ (x : RouteId). x.source) e))
    (beside_distinct s l p)) (λ r old new.
    let u = below_cases s c n r old in
    let v = map_cases (λ q. route_to q p) (beside s p) r new in
    let same : u.0 ≡ n = ap (λ (x : RouteId). x.to.port) (u.4 ∙ sym v.2) in
    absurd (omega (arith, u.2, same)))

pub into_distinct : (s : Setup) → IsSetup s → (c : CompId) → AreDistinctRoutes (routes_into s c)
unfolding routes_into
into_distinct s l c = below_distinct s l c (length (ports_at s.types s.components c))

-- what stands in a pair of ports is a port
paired_ports : (s : Setup) (pairs : List (PortRef × PortRef)) (p q : PortRef) → All (ArePorts s) pairs → Contains (partners pairs p) q → IsPort s q
paired_ports s [] p q h c = absurd (omega (arith, c.1))
paired_ports s (pair ∷ pairs) p q h c =
    elim (cons_cases (partner p pair) (partners pairs p) q c) [
      | inl e ↦ elim (pair_cases pair p q e) [
        | inl w ↦ subst (IsPort s) (sym w.1) (h 0 pair (omega arith)).1
        | inr w ↦ subst (IsPort s) (sym w.1) (h 0 pair (omega arith)).0
      ]
      | inr rest ↦ paired_ports s pairs p q (λ k d n. h (suc k) d (omega (arith, n))) rest
    ]

both_ports : (s : Setup) → IsSetup s → All (ArePorts s) (s.connected ++ s.mapped)
both_ports s l = All-append (ArePorts s) s.connected s.mapped l.connected_ports l.mapped_ports

pub beside_ports : (s : Setup) → IsSetup s → (p q : PortRef) → Contains (beside s p) q → IsPort s q
unfolding beside
beside_ports s l p q h = paired_ports s (s.connected ++ s.mapped) p q (both_ports s l) h

into_from : (s : Setup) (c : CompId) (n : ℕ) (r : RouteId) → Contains (routes_below s c n) r → (r.to.comp ≡ c) × ((p : PortRef) × Contains (routes_from s p) r)
unfolding port_at routes_from
into_from s c n r h =
    let w = below_cases s c n r h in
    let p = port_at c w.0 in (
      sym (ap (λ (x : RouteId). x.to.comp) w.4),
      (w.1, subst (Contains (map (route_to w.1) (beside s w.1))) w.4 (map_contains (route_to w.1) (beside s w.1) p (beside_back s p w.1 w.3))),
    )

from_into : (s : Setup) → IsSetup s → (c : CompId) (p : PortRef) (r : RouteId) → r.to.comp ≡ c → Contains (routes_from s p) r
    → Contains (routes_below s c (length (ports_at s.types s.components c))) r
unfolding port_at routes_from
from_into s l c p r e h =
    let w = map_cases (route_to p) (beside s p) r h in
    let q : PortRef = w.0 in
    let at : q.comp ≡ c = ap (λ (x : RouteId). x.to.comp) w.2 ∙ e in
    let port : IsPort s q = beside_ports s l p q w.1 in
    let below : q.port < length (ports_at s.types s.components q.comp) = port_within s.types s.components q port in
    subst (λ d. Contains (routes_below s d (length (ports_at s.types s.components d))) r) at (subst
    (Contains (routes_below s q.comp (length (ports_at s.types s.components q.comp)))) w.2
    (below_contains s q.comp (length (ports_at s.types s.components q.comp)) q.port p below (beside_back s p q w.1)))

pub both_ways : (s : Setup) → IsSetup s → (c : CompId) → AreRoutesInto s c (routes_into s c)
unfolding routes_into
both_ways s l c = λ r. (into_from s c (length (ports_at s.types s.components c)) r, λ w. from_into s l c w.1.0 r w.0 w.1.1)

-- by what is kept
kept_below : (s : Setup) (links : List (List (List PortRef))) → KeepsPairs s links → (c : CompId) (n : ℕ) → routes_kept links c n ≡ routes_below s c n
unfolding port_at
kept_below s links k c zero = refl
kept_below s links k c (suc n) =
    ap (λ l. l ++ map (λ q. route_to q (port_at c n)) (links_at links (port_at c n))) (kept_below s links k c n)
    ∙ ap (λ l. routes_below s c n ++ map (λ q. route_to q (port_at c n)) l) (k.kept (port_at c n))

pub kept_into : (s now : Setup) (links more : List (List (List PortRef))) → KeepsPairs s links → s ≡ now → more ≡ links → (c : CompId) (n : ℕ)
    → n ≡ length (ports_at s.types s.components c) → routes_kept more c n ≡ routes_into now c
unfolding routes_into
kept_into s now links more k same e c n f =
    ap (λ l. routes_kept l c n) e ∙ kept_below s links k c n ∙ ap (routes_below s c) f
    ∙ ap (λ t. routes_below t c (length (ports_at t.types t.components c))) same

pub kept_from : (s now : Setup) (links more : List (List (List PortRef))) → KeepsPairs s links → s ≡ now → more ≡ links → (p : PortRef)
    → map (route_to p) (links_at more p) ≡ routes_from now p
unfolding routes_from
kept_from s now links more k same e p =
    ap (λ l. map (route_to p) (links_at l p)) e ∙ ap (map (route_to p)) (k.kept p) ∙ ap (λ t. map (route_to p) (beside t p)) same

-- a component has few ports
pub few_at : (s : Setup) → IsSetup s → (c : CompId) → length (ports_at s.types s.components c) ≤ 64
unfolding ports_at
few_at s l c = few_in s.types (slice_get s.components c.0) l.few_ports
  where
    few_in : (ts : List (List PortDecl)) (o : Option Member) → All (λ (ports : List PortDecl). length ports ≤ 64) ts
        → length (option_map_or (λ (m : Member). get_or ts m.kind []) o []) ≤ 64
    few_in ts None few = omega arith
    few_in ts (Some m) few =
        elim (cases_lt m.kind (length ts)) [
          | inl below ↦ few m.kind [] below
          | inr past ↦ subst (λ (ports : List PortDecl). length ports ≤ 64) (sym (get_or_past ts m.kind [] past)) (omega arith)
        ]

-- a route that was chosen is one of the routes
pub chosen_among : (routes : List RouteId) (to : Option CompId) (r : RouteId) → IsRouteOf routes to r → Contains routes r
chosen_among routes None r e = subst (λ l. Contains l r) (sym e) (Contains-here r [])
chosen_among routes (Some c) r h = h.0

pub chosen : (routes : List RouteId) (to : Option CompId) (o : Result RouteId RouteFault)
    → MatchResult o (λ r. IsRouteOf routes to r) (λ f. RouteCauseOf routes to f) → IfOk o (Contains routes)
chosen routes to (Ok r) h = chosen_among routes to r h
chosen routes to (Err f) h = tt
