-- The senders of an inbox, by their components.
use Rattle.std.proofs.Common.{◌≡◌, ◌≢◌, ℕ, zero, suc, ◌+◌, ◌<◌, Bool, true, false, true≢false, cond, eqb, eq-eqb, List, [], ◌∷◌, ◌++◌, length, map, take, set, get_or, refl, sym, ap, ◌∙◌, subst, arith}
use Rattle.std.specs.Prelude.{◌&&◌, ◌||◌, ◌==◌, filter, All}
use Rattle.std.specs.List.{list_any, HoldsAt}
use Rattle.std.proofs.lemmas.Bool.{eqb-true}
use Rattle.std.proofs.lemmas.List.{append-nil, map-append, length-map, length-take, get_or-map, get_or-take}
use Rattle.std.proofs.lemmas.List.Folds.{list_any-append}
use Rattle.std.proofs.lemmas.List.Elements.{All-cons, filter-append}
use Rattle.std.proofs.Math.Seq.{take-suc}
use Rattle.tp_config.specs.declared.port_type.CompId.{CompId}
use Rattle.tp_config.specs.declared.port_type.RouteId.{RouteId}
use Rattle.tp_inbox.specs.History.{same_route}
use Rattle.tp_inbox.specs.Envelopes.{has}
use Rattle.tp_inbox.specs.Routed.{AreRoutes, absent_route, route_at, routes_by, with_source, sources_behind, sources_of}
use Rattle.tp_inbox.specs.Ledgers.{Inbox, SenderLedger, AreMade, sender_by, new_sender, first_sender, extended}
use Rattle.tp_inbox.specs.InboxEndFields.{AreFrom}
use Rattle.tp_inbox.proofs.RoutesAfterSendersJoin.{all_head, all_tail}
use Rattle.tp_inbox.proofs.SenderPutInvariants.{same_places, route_same, route_itself, or_first, or_second}
use Rattle.tp_inbox.proofs.EnvelopesOfOneRoute.{false_or}
use Rattle.tp_inbox.proofs.ArrivalsOfEnvelopes.{same_default}

-- whether a route is one of these
abbrev is_of : RouteId → List RouteId → Bool
is_of r rs = list_any (same_route r) rs

and_false : (b : Bool) → (b && false) ≡ false
and_false true = refl
and_false false = refl

any_kept : (f : RouteId → Bool) (r : RouteId) (rs : List RouteId) → is_of r (filter f rs) ≡ (is_of r rs && f r)
any_kept f r [] = refl
any_kept f r (x ∷ xs) = by (same_route r x) (f x) refl refl (any_kept f r xs)
  where
    by : (b d : Bool) → same_route r x ≡ b → f x ≡ d → is_of r (filter f xs) ≡ (is_of r xs && f r)
        → is_of r (cond (f x) (x ∷ filter f xs) (filter f xs)) ≡ ((same_route r x || is_of r xs) && f r)
    by true true e k h =
        let is : f r ≡ true = ap f (route_same r x e) ∙ k in
        ap (λ c. is_of r (cond c (x ∷ filter f xs) (filter f xs))) k ∙ ap (λ c. c || is_of r (filter f xs)) e
        ∙ sym (ap (λ c. (c || is_of r xs) && f r) e ∙ is)
    by true false e k h =
        let is : f r ≡ false = ap f (route_same r x e) ∙ k in
        ap (λ c. is_of r (cond c (x ∷ filter f xs) (filter f xs))) k ∙ h ∙ ap (λ c. is_of r xs && c) is ∙ and_false (is_of r xs)
        ∙ sym (ap (λ c. (c || is_of r xs) && f r) e ∙ is)
    by false true e k h =
        ap (λ c. is_of r (cond c (x ∷ filter f xs) (filter f xs))) k ∙ ap (λ c. c || is_of r (filter f xs)) e ∙ h
        ∙ sym (ap (λ c. (c || is_of r xs) && f r) e)
    by false false e k h =
        ap (λ c. is_of r (cond c (x ∷ filter f xs) (filter f xs))) k ∙ h ∙ sym (ap (λ c. (c || is_of r xs) && f r) e)

any_at : (rs : List RouteId) (p : ℕ) → p < length rs → is_of (route_at rs p) rs ≡ true
any_at [] p low = absurd (omega arith)
any_at (x ∷ xs) zero low = or_first (same_route x x) (is_of x xs) (route_itself x)
any_at (x ∷ xs) (suc p) low = or_second (same_route (route_at xs p) x) (is_of (route_at xs p) xs) (any_at xs p (omega arith))

any_places : (comp : CompId) (ports : ℕ) (routes : List RouteId) → AreRoutes comp ports routes → (p : ℕ) → p < length routes → (places : List ℕ)
    → All (λ q. q < length routes) places → is_of (route_at routes p) (map (route_at routes) places) ≡ has places p
any_places comp ports routes are p low [] few = refl
any_places comp ports routes are p low (q ∷ qs) few =
    let here = same_places comp ports routes are p q low (all_head (λ q. q < length routes) q qs few) in
    let rest = any_places comp ports routes are p low qs (all_tail (λ q. q < length routes) q qs few) in
    λ i. here i || rest i

-- where these are all routes from a component, their places are those of the routes from it
pub from_routes : (comp : CompId) (ports : ℕ) (routes : List RouteId) → AreRoutes comp ports routes → (source : CompId) (places : List ℕ)
    → All (λ q. q < length routes) places → map (route_at routes) places ≡ routes_by source routes → AreFrom source routes places
from_routes comp ports routes are source places low is p few =
    let r = route_at routes p in
    sym (any_places comp ports routes are p few places low) ∙ ap (is_of r) is ∙ any_kept (λ (q : RouteId). source.0 == q.source.0) r routes
    ∙ ap (λ b. b && (source.0 == r.source.0)) (any_at routes p few)

-- whether a component is one of these
abbrev is_among : CompId → List CompId → Bool
is_among c cs = list_any (λ (s : CompId). s.0 == c.0) cs

sources-snoc : (seen : List CompId) (rs : List RouteId) (r : RouteId) → sources_behind seen (rs ++ r ∷ []) ≡ with_source (sources_behind seen rs) r.source
sources-snoc seen [] r = refl
sources-snoc seen (x ∷ xs) r = sources-snoc (with_source seen x.source) xs r

or_off : (b c : Bool) → (b || c) ≡ false → (b ≡ false) × (c ≡ false)
or_off true c h = absurd (true≢false h)
or_off false c h = (refl, h)

eqb_sym : (a b : ℕ) → eqb a b ≡ false → eqb b a ≡ false
eqb_sym a b h = false_or (eqb b a) (λ yes_. true≢false (sym (eq-eqb a b (sym (eqb-true b a yes_))) ∙ h))

-- no two of these are equal
Apart : List CompId → Type 0
Apart [] = Unit {0}
Apart (c ∷ cs) = (is_among c cs ≡ false) × Apart cs

apart-push : (cs : List CompId) (c : CompId) → Apart cs → is_among c cs ≡ false → Apart (cs ++ c ∷ [])
unfolding Apart
apart-push [] c h none = (refl, tt)
apart-push (x ∷ xs) c h none =
    let k = or_off (eqb x.0 c.0) (is_among c xs) none in (
      list_any-append (λ (s : CompId). s.0 == x.0) xs (c ∷ []) ∙ ap (λ b. b || (eqb c.0 x.0 || false)) h.0 ∙ ap (λ b. b || false) (eqb_sym x.0 c.0 k.0),
      apart-push xs c h.1 k.1,
    )

apart-with : (cs : List CompId) (c : CompId) → Apart cs → Apart (with_source cs c)
apart-with cs c h = by (is_among c cs) refl
  where
    by : (b : Bool) → is_among c cs ≡ b → Apart (cond b cs (cs ++ c ∷ []))
    by true e = h
    by false e = apart-push cs c h e

apart-behind : (cs : List CompId) (rs : List RouteId) → Apart cs → Apart (sources_behind cs rs)
apart-behind cs [] h = h
apart-behind cs (r ∷ rs) h = apart-behind (with_source cs r.source) rs (apart-with cs r.source h)

apart_none : Apart []
unfolding Apart
apart_none = tt

among_with : (c : CompId) (cs : List CompId) (d : CompId) → is_among c cs ≡ true → is_among c (with_source cs d) ≡ true
among_with c cs d h = by (is_among d cs)
  where
    by : (b : Bool) → is_among c (cond b cs (cs ++ d ∷ [])) ≡ true
    by true = h
    by false = list_any-append (λ (s : CompId). s.0 == c.0) cs (d ∷ []) ∙ or_first (is_among c cs) (is_among c (d ∷ [])) h

among_behind : (c : CompId) (cs : List CompId) (rs : List RouteId) → is_among c cs ≡ true → is_among c (sources_behind cs rs) ≡ true
among_behind c cs [] h = h
among_behind c cs (r ∷ rs) h = among_behind c (with_source cs r.source) rs (among_with c cs r.source h)

with_itself : (cs : List CompId) (c : CompId) → is_among c (with_source cs c) ≡ true
with_itself cs c = by (is_among c cs) refl
  where
    by : (b : Bool) → is_among c cs ≡ b → is_among c (cond b cs (cs ++ c ∷ [])) ≡ true
    by true e = e
    by false e =
        list_any-append (λ (s : CompId). s.0 == c.0) cs (c ∷ [])
        ∙ or_second (is_among c cs) (is_among c (c ∷ [])) (or_first (eqb c.0 c.0) false (eq-eqb c.0 c.0 refl))

-- from a component that is none of these no route leads
none_by : (c : CompId) (cs : List CompId) (rs : List RouteId) → is_among c (sources_behind cs rs) ≡ false → routes_by c rs ≡ []
none_by c cs [] h = refl
none_by c cs (r ∷ rs) h =
    let other : eqb c.0 r.source.0 ≡ false = false_or (eqb c.0 r.source.0) (λ yes_.
    let same : r.source ≡ c = λ i. record { 0 = sym (eqb-true c.0 r.source.0 yes_) i } in
    true≢false (sym (among_behind c (with_source cs r.source) rs
    (subst (λ (d : CompId). is_among c (with_source cs d) ≡ true) (sym same) (with_itself cs c))) ∙ h)) in
    ap (λ b. cond b (r ∷ routes_by c rs) (routes_by c rs)) other ∙ none_by c (with_source cs r.source) rs h

by-here : (c : CompId) (rs : List RouteId) (r : RouteId) → r.source ≡ c → routes_by c (rs ++ r ∷ []) ≡ routes_by c rs ++ r ∷ []
by-here c rs r is =
    filter-append (λ (q : RouteId). c.0 == q.source.0) rs (r ∷ [])
    ∙ ap (λ b. routes_by c rs ++ cond b (r ∷ []) []) (eq-eqb c.0 r.source.0 (ap (λ (d : CompId). d.0) (sym is)))

by-else : (c : CompId) (rs : List RouteId) (r : RouteId) → eqb c.0 r.source.0 ≡ false → routes_by c (rs ++ r ∷ []) ≡ routes_by c rs
by-else c rs r is =
    filter-append (λ (q : RouteId). c.0 == q.source.0) rs (r ∷ []) ∙ ap (λ b. routes_by c rs ++ cond b (r ∷ []) []) is ∙ append-nil (routes_by c rs)

-- a sender of another component is the same with one route more
same_else : (inbox : Inbox) (n : ℕ) (c : CompId) → n < length inbox.routes → eqb c.0 (route_at inbox.routes n).source.0 ≡ false
    → sender_by inbox n c ≡ sender_by inbox (n + 1) c
same_else inbox n c low other =
    let r = route_at inbox.routes n in
    let cut : take (n + 1) inbox.routes ≡ take n inbox.routes ++ r ∷ [] = ap (λ k. take k inbox.routes) (let e : n + 1 ≡ suc n = omega arith in e)
    ∙ take-suc inbox.routes n absent_route low in
    λ i. record { inbox = inbox; source = c; routes = sym (ap (routes_by c) cut ∙ by-else c (take n inbox.routes) r other) i; ledger = [] }

-- and so are the senders of others
same_all : (inbox : Inbox) (n : ℕ) (cs : List CompId) → n < length inbox.routes → is_among (route_at inbox.routes n).source cs ≡ false
    → map (sender_by inbox n) cs ≡ map (sender_by inbox (n + 1)) cs
same_all inbox n [] low none = refl
same_all inbox n (c ∷ cs) low none =
    let k = or_off (eqb c.0 (route_at inbox.routes n).source.0) (is_among (route_at inbox.routes n).source cs) none in
    λ i. same_else inbox n c low k.0 i ∷ same_all inbox n cs low k.1 i

-- the sender of this route's component, with the route
same_here : (inbox : Inbox) (n : ℕ) (c : CompId) → n < length inbox.routes → c ≡ (route_at inbox.routes n).source
    → extended (sender_by inbox n c) (route_at inbox.routes n) ≡ sender_by inbox (n + 1) c
same_here inbox n c low is =
    let r = route_at inbox.routes n in
    let cut : take (n + 1) inbox.routes ≡ take n inbox.routes ++ r ∷ [] = ap (λ k. take k inbox.routes) (let e : n + 1 ≡ suc n = omega arith in e)
    ∙ take-suc inbox.routes n absent_route low in
    λ i. record { inbox = inbox; source = c; routes = sym (ap (routes_by c) cut ∙ by-here c (take n inbox.routes) r (sym is)) i; ledger = [] }

is_among_at : (cs : List CompId) (k : ℕ) (c : CompId) → k < length cs → (get_or cs k c) ≡ c → is_among c cs ≡ true
is_among_at [] k c low is = absurd (omega arith)
is_among_at (x ∷ xs) zero c low is = or_first (eqb x.0 c.0) (is_among c xs) (eq-eqb x.0 c.0 (ap (λ (d : CompId). d.0) is))
is_among_at (x ∷ xs) (suc k) c low is = or_second (eqb x.0 c.0) (is_among c xs) (is_among_at xs k c (omega arith) is)

-- one of the senders got the route
one_more : (inbox : Inbox) (n k : ℕ) (cs : List CompId) (s : SenderLedger) → n < length inbox.routes → Apart cs → k < length cs
    → get_or cs k (route_at inbox.routes n).source ≡ (route_at inbox.routes n).source
    → s ≡ extended (sender_by inbox n (route_at inbox.routes n).source) (route_at inbox.routes n)
    → set (map (sender_by inbox n) cs) k s ≡ map (sender_by inbox (n + 1)) cs
unfolding Apart
one_more inbox n k [] s low h few at is = absurd (omega arith)
one_more inbox n zero (c ∷ cs) s low h few at is =
    let source = (route_at inbox.routes n).source in
    let none : is_among source cs ≡ false = ap (λ d. is_among d cs) (sym at) ∙ h.0 in
    let more = is ∙ same_here inbox n source low refl ∙ ap (sender_by inbox (n + 1)) (sym at) in
    λ i. more i ∷ same_all inbox n cs low none i
one_more inbox n (suc k) (c ∷ cs) s low h few at is =
    let source = (route_at inbox.routes n).source in
    let there = is_among_at cs k source (omega arith) at in
    let other : eqb c.0 source.0 ≡ false = false_or (eqb c.0 source.0) (λ yes_.
    let same : source ≡ c = λ i. record { 0 = sym (eqb-true c.0 source.0 yes_) i } in
    true≢false (sym there ∙ ap (λ d. is_among d cs) same ∙ h.0)) in
    λ i. same_else inbox n c low other i ∷ one_more inbox n k cs s low h.1 (omega arith) at is i

grown_sources : (inbox : Inbox) (n : ℕ) → n < length inbox.routes
    → sources_of (take (n + 1) inbox.routes) ≡ with_source (sources_of (take n inbox.routes)) (route_at inbox.routes n).source
grown_sources inbox n low =
    let r = route_at inbox.routes n in
    ap sources_of (ap (λ k. take k inbox.routes) (let e : n + 1 ≡ suc n = omega arith in e) ∙ take-suc inbox.routes n absent_route low)
    ∙ sources-snoc [] (take n inbox.routes) r

-- the sender of this route's component is one that has the routes before
pub found_is : (inbox : Inbox) (n k : ℕ) (senders : List SenderLedger) (x : SenderLedger) → AreMade inbox n senders → k < length senders
    → HoldsAt (λ (y : SenderLedger). y.source ≡ (route_at inbox.routes n).source) senders k → x ≡ get_or senders k x
    → (k < length (sources_of (take n inbox.routes)))
    × (get_or (sources_of (take n inbox.routes)) k (route_at inbox.routes n).source ≡ (route_at inbox.routes n).source)
    × (x ≡ sender_by inbox n (route_at inbox.routes n).source)
found_is inbox n k senders x split_off few at is =
    let source = (route_at inbox.routes n).source in
    let cs = sources_of (take n inbox.routes) in
    let within : k < length cs = omega (arith, few, ap length split_off, length-map cs (sender_by inbox n)) in
    let read : get_or senders k x ≡ sender_by inbox n (get_or cs k source) = ap (λ l. get_or l k x) split_off
    ∙ get_or-map (sender_by inbox n) cs k source x within in
    let here : get_or cs k source ≡ source = ap (λ (y : SenderLedger). y.source) (sym read) ∙ at x in
    (within, here, is ∙ read ∙ ap (sender_by inbox n) here)

-- the senders, once the one of this component has got the route
pub made_found : (inbox : Inbox) (n k : ℕ) (senders : List SenderLedger) (x s : SenderLedger) → n < length inbox.routes → AreMade inbox n senders → k < length senders
    → HoldsAt (λ (y : SenderLedger). y.source ≡ (route_at inbox.routes n).source) senders k → x ≡ get_or senders k x
    → s ≡ extended x (route_at inbox.routes n) → AreMade inbox (n + 1) (set senders k s)
made_found inbox n k senders x s low split_off few at is grown =
    let r = route_at inbox.routes n in
    let cs = sources_of (take n inbox.routes) in
    let f = found_is inbox n k senders x split_off few at is in
    let there = is_among_at cs k r.source f.0 f.1 in
    ap (λ l. set l k s) split_off
    ∙ one_more inbox n k cs s low (apart-behind [] (take n inbox.routes) apart_none) f.0 f.1 (grown ∙ ap (λ y. extended y r) f.2)
    ∙ ap (map (sender_by inbox (n + 1))) (sym (grown_sources inbox n low ∙ ap (λ b. cond b cs (cs ++ r.source ∷ [])) there))

all_kept : {A : Type 0} (P : A → Type 0) (f : A → Bool) (xs : List A) → All P xs → All P (filter f xs)
all_kept P f [] h = h
all_kept P f (x ∷ xs) h = by (f x) (all_kept P f xs (all_tail P x xs h))
  where
    by : (b : Bool) → All P (filter f xs) → All P (cond b (x ∷ filter f xs) (filter f xs))
    by true rest = All-cons P x (filter f xs) (all_head P x xs h) rest
    by false rest = rest

-- the next route is none of those before
pub apart_routes : (comp : CompId) (ports : ℕ) (routes : List RouteId) → AreRoutes comp ports routes → (n : ℕ) → n < length routes → (source : CompId)
    → All (λ (r : RouteId). r ≢ route_at routes n) (routes_by source (take n routes))
apart_routes comp ports routes are n low source =
    all_kept (λ (r : RouteId). r ≢ route_at routes n) (λ (r : RouteId). source.0 == r.source.0) (take n routes)
    (λ k d few eq.
    let less : k < n = omega (arith, few, length-take n routes) in
    are.apart k n absent_route less low (same_default routes k absent_route d (omega arith) ∙ sym (get_or-take n routes k d less) ∙ eq))

-- the senders, with a new one that has the route
pub made_new : (inbox : Inbox) (n : ℕ) (senders more : List SenderLedger) (s : SenderLedger) → n < length inbox.routes → AreMade inbox n senders
    → All (λ (x : SenderLedger). x.source ≢ (route_at inbox.routes n).source) senders → s ≡ first_sender inbox (route_at inbox.routes n)
    → more ≡ senders ++ s ∷ [] → AreMade inbox (n + 1) more
made_new inbox n senders more s low split_off none is grows =
    let r = route_at inbox.routes n in
    let cs = sources_of (take n inbox.routes) in
    let apart : is_among r.source cs ≡ false = none_among cs (subst (All (λ (x : SenderLedger). x.source ≢ r.source)) split_off none) in
    let only : s ≡ sender_by inbox (n + 1) r.source = is
    ∙ (λ i. record { inbox = inbox; source = r.source; routes = ap (λ l. l ++ r ∷ []) (sym (none_by r.source [] (take n inbox.routes) apart)) i; ledger = [] })
    ∙ same_here inbox n r.source low refl in
    grows ∙ (λ i. (split_off ∙ same_all inbox n cs low apart) i ++ only i ∷ []) ∙ sym (map-append (sender_by inbox (n + 1)) cs (r.source ∷ []))
    ∙ ap (map (sender_by inbox (n + 1))) (sym (grown_sources inbox n low ∙ ap (λ b. cond b cs (cs ++ r.source ∷ [])) apart))
  where
    none_among : (cs : List CompId) → All (λ (x : SenderLedger). x.source ≢ (route_at inbox.routes n).source) (map (sender_by inbox n) cs)
        → is_among (route_at inbox.routes n).source cs ≡ false
    none_among [] h = refl
    none_among (c ∷ cs) h =
        let source = (route_at inbox.routes n).source in
        let first : c ≢ source = all_head (λ (x : SenderLedger). x.source ≢ source) (sender_by inbox n c) (map (sender_by inbox n) cs) h in
        let rest = none_among cs (all_tail (λ (x : SenderLedger). x.source ≢ source) (sender_by inbox n c) (map (sender_by inbox n) cs) h) in
        ap (λ b. b || is_among source cs)
        (false_or (eqb c.0 source.0) (λ yes_. first (λ i. record { 0 = eqb-true c.0 source.0 yes_ i }))) ∙ rest

take_whole : {A : Type 0} (xs : List A) (n : ℕ) → n ≡ length xs → take n xs ≡ xs
take_whole [] zero e = refl
take_whole [] (suc n) e = refl
take_whole (x ∷ xs) zero e = absurd (omega arith)
take_whole (x ∷ xs) (suc n) e = ap (λ l. x ∷ l) (take_whole xs n (omega arith))

-- the senders of all routes
pub made_all : (inbox : Inbox) (n : ℕ) (senders : List SenderLedger) → n ≡ length inbox.routes → AreMade inbox n senders
    → senders ≡ map (new_sender inbox) (sources_of inbox.routes)
made_all inbox n senders all split_off =
    subst (λ (l : List RouteId). senders ≡ map (λ c. record { inbox = inbox; source = c; routes = routes_by c l; ledger = [] }) (sources_of l))
    (take_whole inbox.routes n all) split_off
