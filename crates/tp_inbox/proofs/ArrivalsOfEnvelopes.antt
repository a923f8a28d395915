-- The arrivals that envelopes make, route by route.
use Rattle.std.proofs.Common.{◌≡◌, ◌≢◌, ◌⊎◌, inl, inr, ℕ, zero, suc, ◌<◌, Bool, true, false, cond, eqb, eq-eqb, ne_eqb, Some, None, List, [], ◌∷◌, ◌++◌, length, map, refl, sym, ap, ◌∙◌, ⊎_elim, arith}
use Rattle.std.specs.Prelude.{slice_index_or, ◌&&◌, ◌==◌, All, filter}
use Rattle.std.specs.List.{filter_map, cons_option}
use Rattle.std.proofs.lemmas.Bool.{and_parts, and_from, eqb-true}
use Rattle.std.proofs.lemmas.List.Elements.{filter_map-append, filter-append}
use Rattle.tp_common.specs.declared.event.Env.{Env}
use Rattle.tp_value.specs.declared.message.Message.{Message}
use Rattle.tp_config.specs.declared.port_type.CompId.{CompId}
use Rattle.tp_config.specs.declared.port_type.RouteId.{RouteId}
use Rattle.tp_inbox.specs.declared.entry.Entry.{Entry}
use Rattle.tp_inbox.specs.declared.entry.Entry.TheVariants as entry
use Rattle.tp_inbox.specs.declared.envelope.InboxEnvelope.{InboxEnvelope}
use Rattle.tp_inbox.specs.declared.posted.Posted.{Posted}
use Rattle.tp_inbox.specs.History.{is_arrival, arrivals, arrival_on, arrived_on, arrival_from, arrived_from}
use Rattle.tp_inbox.specs.Envelopes.{of, has, on_routes, InOrder, AreRouted}
use Rattle.tp_inbox.specs.Routed.{AreRoutes, route_at, absent_route, arrival_of, arrivals_of, IsArrivalOn, AreArrivalsNumbered, posted_of}
use Rattle.tp_inbox.specs.InboxEndFields.{AreFrom}
use Rattle.tp_inbox.proofs.EnvelopesOfOneRoute.{same_or_not}

true_and : (a b : ℕ) (c d : ℕ) → (eqb a b && eqb c d) ≡ true → (a ≡ b) × (c ≡ d)
true_and a b c d e = let h = and_parts (eqb a b) (eqb c d) e in (eqb-true a b h.0, eqb-true c d h.1)

true_or_false : (b : Bool) → (b ≡ true) ⊎ (b ≡ false)
true_or_false true = inl refl
true_or_false false = inr refl

pub same_default : {A : Type 0} (xs : List A) (k : ℕ) (d e : A) → k < length xs → slice_index_or xs k d ≡ slice_index_or xs k e
same_default [] k d e low = absurd (omega arith)
same_default (x ∷ xs) zero d e low = refl
same_default (x ∷ xs) (suc k) d e low = same_default xs k d e (omega arith)

-- two routes into one component that have one port and one sender are equal
meeting : (comp : CompId) (r q : RouteId) → r.to.comp ≡ comp → q.to.comp ≡ comp → r.to.port ≡ q.to.port → r.source.0 ≡ q.source.0 → r ≡ q
meeting comp r q a b p s = λ i. record { source = record { 0 = s i }; to = record { comp = (a ∙ sym b) i; port = p i } }

either_way : (p q : ℕ) → p ≢ q → (p < q) ⊎ (q < p)
either_way zero zero n = absurd (n refl)
either_way zero (suc q) n = inl (omega arith)
either_way (suc p) zero n = inr (omega arith)
either_way (suc p) (suc q) n =
    ⊎_elim (λ (l : p < q). inl (omega arith)) (λ (l : q < p). inr (omega arith)) (either_way p q (λ e. n (ap suc e)))

-- one list has no two equal routes
pub same_place : (comp : CompId) (ports : ℕ) (routes : List RouteId) → AreRoutes comp ports routes → (p q : ℕ) → p < length routes → q < length routes
    → route_at routes p ≡ route_at routes q → p ≡ q
same_place comp ports routes r p q low few e =
    ⊎_elim
    (λ (same : p ≡ q). same)
    (λ (other : p ≢ q).
    absurd
    (⊎_elim
    (λ (l : p < q). r.apart p q absent_route l few e)
    (λ (l : q < p). r.apart q p absent_route l low (sym e))
    (either_way p q other)))
    (same_or_not p q)

-- whether two routes have one port and one sender
abbrev meets : RouteId → RouteId → Bool
meets r q = (r.to.port == q.to.port) && (r.source.0 == q.source.0)

meets_itself : (r : RouteId) → meets r r ≡ true
meets_itself r = and_from (eqb r.to.port r.to.port) (eqb r.source.0 r.source.0) (eq-eqb r.to.port r.to.port refl) (eq-eqb r.source.0 r.source.0 refl)

-- of two routes of the list, one meets the other only at one place
meets_places : (comp : CompId) (ports : ℕ) (routes : List RouteId) → AreRoutes comp ports routes → (p q : ℕ) → p < length routes → q < length routes
    → meets (route_at routes p) (route_at routes q) ≡ eqb p q
meets_places comp ports routes r p q low few =
    let R = route_at routes in
    ⊎_elim
    (λ (same : p ≡ q). ap (λ k. meets (R p) (R k)) (sym same) ∙ meets_itself (R p) ∙ sym (eq-eqb p q same))
    (λ (other : p ≢ q).
    ⊎_elim
    (λ (yes : meets (R p) (R q) ≡ true).
    let same = true_and (R p).to.port (R q).to.port (R p).source.0 (R q).source.0 yes in
    absurd (other (same_place comp ports routes r p q low few (meeting comp (R p) (R q) (r.here p absent_route low) (r.here q absent_route few)
    same.0 same.1))))
    (λ (no_ : meets (R p) (R q) ≡ false). no_ ∙ sym (ne_eqb p q other))
    (true_or_false (meets (R p) (R q))))
    (same_or_not p q)

cons_cond : {A : Type 0} (b : Bool) (x : A) (l : List A) → cons_option (cond b (Some x) None) l ≡ cond b (x ∷ l) l
cons_cond true x l = refl
cons_cond false x l = refl

-- what arrives on a route that meets one of the list alone is what that one's envelopes hold
on_only : (routes : List RouteId) (q : RouteId) (p : ℕ) → ((k : ℕ) → k < length routes → meets q (route_at routes k) ≡ eqb p k) → (es : List InboxEnvelope)
    → AreRouted (length routes) es → arrived_on q (arrivals_of routes es) ≡ of p es
unfolding arrived_on
on_only routes q p only [] of_these = refl
on_only routes q p only (e ∷ es) of_these =
    ap (λ b. cons_option (cond b (Some (e.number, e.stamped)) None) (filter_map (arrival_on q) (arrivals_of routes es))) (only e.place of_these.0)
    ∙ ap (λ l. cons_option (cond (eqb p e.place) (Some (e.number, e.stamped)) None) l) (on_only routes q p only es of_these.1)
    ∙ cons_cond (eqb p e.place) (e.number, e.stamped) (of p es)

-- what arrives on a route of the list is what its envelopes hold
pub on_place : (comp : CompId) (ports : ℕ) (routes : List RouteId) → AreRoutes comp ports routes → (p : ℕ) → p < length routes → (es : List InboxEnvelope)
    → AreRouted (length routes) es → arrived_on (route_at routes p) (arrivals_of routes es) ≡ of p es
on_place comp ports routes r p low es of_these = on_only routes (route_at routes p) p (λ k few. meets_places comp ports routes r p k low few) es of_these

-- on a route into the component that is none of the list nothing arrives
pub on_none : (comp : CompId) (ports : ℕ) (routes : List RouteId) → AreRoutes comp ports routes → (q : RouteId) → q.to.comp ≡ comp
    → ((k : ℕ) → k < length routes → route_at routes k ≡ q → ⊥)
    → (es : List InboxEnvelope) → AreRouted (length routes) es → arrived_on q (arrivals_of routes es) ≡ []
unfolding arrived_on
on_none comp ports routes r q to apart [] of_these = refl
on_none comp ports routes r q to apart (e ∷ es) of_these =
    ap (λ b. cons_option (cond b (Some (e.number, e.stamped)) None) (filter_map (arrival_on q) (arrivals_of routes es)))
    (none (true_or_false (meets q (route_at routes e.place))))
    ∙ on_none comp ports routes r q to apart es of_these.1
  where
    none : (meets q (route_at routes e.place) ≡ true) ⊎ (meets q (route_at routes e.place) ≡ false) → meets q (route_at routes e.place) ≡ false
    none (inl met) =
        let p = route_at routes e.place in
        let same = true_and q.to.port p.to.port q.source.0 p.source.0 met in
        absurd (apart e.place of_these.0 (sym (meeting comp q p to (r.here e.place absent_route of_these.0) same.0 same.1)))
    none (inr not_met) = not_met

pub arrivals_one : (port : ℕ) (env : Env Message) (stamp : ℕ) → arrivals (entry.Arrive port stamp env ∷ []) ≡ entry.Arrive port stamp env ∷ []
unfolding arrivals
arrivals_one port env stamp = refl

pub arrivals-append : (xs ys : List Entry) → arrivals (xs ++ ys) ≡ arrivals xs ++ arrivals ys
unfolding arrivals
arrivals-append xs ys = filter-append is_arrival xs ys

pub arrived_on-append : (r : RouteId) (xs ys : List Entry) → arrived_on r (xs ++ ys) ≡ arrived_on r xs ++ arrived_on r ys
unfolding arrived_on
arrived_on-append r xs ys = filter_map-append (arrival_on r) xs ys

no_arrival : (r : RouteId) (e : Entry) → is_arrival e ≡ false → arrival_on r e ≡ None
no_arrival r (entry.Arrive p stamp env) n = absurd (cc)
no_arrival r (entry.Took p b env) n = refl
no_arrival r (entry.Found p b env) n = refl
no_arrival r (entry.Dropped p b env) n = refl
no_arrival r (entry.Cleared p) n = refl
no_arrival r (entry.Started p) n = refl
no_arrival r (entry.Stopped p) n = refl
no_arrival r (entry.Halted p) n = refl
no_arrival r (entry.Sent q number m) n = refl
no_arrival r entry.Else n = refl
no_arrival r (entry.Verdict v) n = refl
no_arrival r (entry.Failed fault) n = refl

arrived_step : (r : RouteId) (e : Entry) (xs ys : List Entry) (b : Bool) → is_arrival e ≡ b → filter_map (arrival_on r) xs ≡ filter_map (arrival_on r) ys
    → filter_map (arrival_on r) (e ∷ xs) ≡ filter_map (arrival_on r) (cond b (e ∷ ys) ys)
arrived_step r e xs ys true is same = ap (cons_option (arrival_on r e)) same
arrived_step r e xs ys false is same = ap (λ o. cons_option o (filter_map (arrival_on r) xs)) (no_arrival r e is) ∙ same

-- only arrivals arrive
pub arrived_in : (r : RouteId) (log : List Entry) → arrived_on r log ≡ arrived_on r (arrivals log)
unfolding arrived_on arrivals
arrived_in r [] = refl
arrived_in r (e ∷ log) = arrived_step r e log (filter is_arrival log) (is_arrival e) refl (arrived_in r log)

pub arrived_from-append : (comp source : CompId) (xs ys : List Entry) → arrived_from comp source (xs ++ ys)
    ≡ arrived_from comp source xs ++ arrived_from comp source ys
unfolding arrived_from
arrived_from-append comp source xs ys = filter_map-append (arrival_from comp source) xs ys

none_arrived : (comp source : CompId) (e : Entry) → is_arrival e ≡ false → arrival_from comp source e ≡ None
none_arrived comp source (entry.Arrive p stamp env) n = absurd (cc)
none_arrived comp source (entry.Took p b env) n = refl
none_arrived comp source (entry.Found p b env) n = refl
none_arrived comp source (entry.Dropped p b env) n = refl
none_arrived comp source (entry.Cleared p) n = refl
none_arrived comp source (entry.Started p) n = refl
none_arrived comp source (entry.Stopped p) n = refl
none_arrived comp source (entry.Halted p) n = refl
none_arrived comp source (entry.Sent q number m) n = refl
none_arrived comp source entry.Else n = refl
none_arrived comp source (entry.Verdict v) n = refl
none_arrived comp source (entry.Failed fault) n = refl

came_step : (comp source : CompId) (e : Entry) (xs ys : List Entry) (b : Bool) → is_arrival e ≡ b
    → filter_map (arrival_from comp source) xs ≡ filter_map (arrival_from comp source) ys
    → filter_map (arrival_from comp source) (e ∷ xs) ≡ filter_map (arrival_from comp source) (cond b (e ∷ ys) ys)
came_step comp source e xs ys true is same = ap (cons_option (arrival_from comp source e)) same
came_step comp source e xs ys false is same =
    ap (λ o. cons_option o (filter_map (arrival_from comp source) xs)) (none_arrived comp source e is) ∙ same

-- only arrivals come from a component
pub came_in : (comp source : CompId) (log : List Entry) → arrived_from comp source log ≡ arrived_from comp source (arrivals log)
unfolding arrived_from arrivals
came_in comp source [] = refl
came_in comp source (e ∷ log) = came_step comp source e log (filter is_arrival log) (is_arrival e) refl (came_in comp source log)

-- an arrival from a component, of an envelope on a route from it
posted_as : (comp source : CompId) (routes : List RouteId) (e : InboxEnvelope) (b : Bool) → (route_at routes e.place).to.comp ≡ comp
    → eqb source.0 (route_at routes e.place).source.0 ≡ b
    → arrival_from comp source (arrival_of routes e) ≡ cond b (Some (posted_of routes e)) None
posted_as comp source routes e true here same =
    let r = route_at routes e.place in
    let from = eqb-true source.0 r.source.0 same in
    let whole : record { source = source; to = record { comp = comp; port = r.to.port } } ≡ r = λ i. record {
      source = record { 0 = from i };
      to = record { comp = sym here i; port = r.to.port };
    } in
    let split_off : RouteId → Posted = λ q. record { route = q; number = e.number; stamped = e.stamped } in
    ap (λ b. cond b (Some (split_off record { source = source; to = record { comp = comp; port = r.to.port } })) None) same ∙ ap (λ q. Some (split_off q)) whole
posted_as comp source routes e false here same =
    let r = route_at routes e.place in
    let split_off : RouteId → Posted = λ q. record { route = q; number = e.number; stamped = e.stamped } in
    ap (λ b. cond b (Some (split_off record { source = source; to = record { comp = comp; port = r.to.port } })) None) same

map_cond : {A B : Type 0} (f : A → B) (b : Bool) (x : A) (l : List A) → cons_option (cond b (Some (f x)) None) (map f l) ≡ map f (cond b (x ∷ l) l)
map_cond f true x l = refl
map_cond f false x l = refl

-- what comes from a component is what the envelopes of its routes hold, in their order
pub from_places : (comp : CompId) (ports : ℕ) (routes : List RouteId) → AreRoutes comp ports routes → (source : CompId) (places : List ℕ)
    → AreFrom source routes places → (es : List InboxEnvelope) → AreRouted (length routes) es
    → arrived_from comp source (arrivals_of routes es) ≡ map (posted_of routes) (on_routes places es)
unfolding arrived_from
from_places comp ports routes are source places from [] h = refl
from_places comp ports routes are source places from (e ∷ es) h =
    ap (λ o. cons_option o (filter_map (arrival_from comp source) (arrivals_of routes es)))
    (posted_as comp source routes e (has places e.place) (are.here e.place absent_route h.0) (sym (from e.place h.0)))
    ∙ ap (cons_option (cond (has places e.place) (Some (posted_of routes e)) None)) (from_places comp ports routes are source places from es h.1)
    ∙ map_cond (posted_of routes) (has places e.place) e (on_routes places es)

pub are_on : (routes : List RouteId) (es : List InboxEnvelope) → AreRouted (length routes) es → All (IsArrivalOn routes) (arrivals_of routes es)
are_on routes [] of_these k d low = absurd (omega arith)
are_on routes (e ∷ es) of_these zero d low = (
  route_at routes e.place,
  (e.place, of_these.0, same_default routes e.place (route_at routes e.place) absent_route of_these.0),
  refl,
  refl,
)
are_on routes (e ∷ es) of_these (suc k) d low = are_on routes es of_these.1 k d (omega arith)

pub numbered_on : (comp : CompId) (ports : ℕ) (routes : List RouteId) → AreRoutes comp ports routes → (es : List InboxEnvelope) → AreRouted (length routes) es
    → InOrder es → AreArrivalsNumbered routes (arrivals_of routes es)
numbered_on comp ports routes r es of_these order k d low = (
  (order k).0,
  ap (λ q. arrived_on q (arrivals_of routes es)) (same_default routes k d absent_route low) ∙ on_place comp ports routes r k low es of_these ∙ (order k).1,
)
