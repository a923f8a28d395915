-- What a history says of routes, as it grows.
use Rattle.std.proofs.Common.{◌≡◌, ℕ, Bool, true, false, cond, eqb, Some, None, Option, List, [], ◌∷◌, ◌++◌, Contains, refl, sym, ap, ◌∙◌, subst, true≢false}
use Rattle.std.specs.Prelude.{◌&&◌, ◌==◌, All, filter}
use Rattle.std.specs.List.{filter_map, cons_option}
use Rattle.std.proofs.lemmas.Bool.{and_parts, eqb-true}
use Rattle.std.proofs.lemmas.List.Elements.{All-head, All-tail, All-contains, filter_map-append}
use Rattle.tp_config.specs.declared.port_type.CompId.{CompId}
use Rattle.tp_config.specs.declared.port_type.RouteId.{RouteId}
use Rattle.tp_inbox.specs.declared.stamped.Stamped.{Stamped}
use Rattle.tp_inbox.specs.declared.entry.Entry.{Entry}
use Rattle.tp_inbox.specs.declared.entry.Entry.TheVariants as entry
use Rattle.tp_inbox.specs.History.{is_arrival, arrivals, arrival_on, arrived_on, same_route, sending_on, sent_on, sending_to, sent_to}
use Rattle.tp_inbox.specs.Routed.{IsArrivalOn}
use Rattle.tp_behaviour.specs.Workers.{IsSentBy}
use Rattle.tp_inbox.proofs.SenderPutInvariants.{route_same}

-- what is no arrival came on no route
pub no_arrival : (q : RouteId) (e : Entry) → is_arrival e ≡ false → arrival_on q e ≡ None
no_arrival q (entry.Arrive p stamp env) is = absurd (true≢false is)
no_arrival q (entry.Took p i env) is = refl
no_arrival q (entry.Found p i env) is = refl
no_arrival q (entry.Dropped p i env) is = refl
no_arrival q (entry.Cleared p) is = refl
no_arrival q (entry.Started p) is = refl
no_arrival q (entry.Stopped p) is = refl
no_arrival q (entry.Halted p) is = refl
no_arrival q (entry.Sent r n m) is = refl
no_arrival q entry.Else is = refl
no_arrival q (entry.Verdict v) is = refl
no_arrival q (entry.Failed c) is = refl

-- what comes on a route of these is an arrival
pub arrives : (routes : List RouteId) (e : Entry) → IsArrivalOn routes e → is_arrival e ≡ true
arrives routes (entry.Arrive p stamp env) h = refl
arrives routes (entry.Took p i env) h = absurd h
arrives routes (entry.Found p i env) h = absurd h
arrives routes (entry.Dropped p i env) h = absurd h
arrives routes (entry.Cleared p) h = absurd h
arrives routes (entry.Started p) h = absurd h
arrives routes (entry.Stopped p) h = absurd h
arrives routes (entry.Halted p) h = absurd h
arrives routes (entry.Sent r n m) h = absurd h
arrives routes entry.Else h = absurd h
arrives routes (entry.Verdict v) h = absurd h
arrives routes (entry.Failed c) h = absurd h

-- an arrival sends nothing
pub unsent : (out : List RouteId) (e : Entry) → is_arrival e ≡ true → IsSentBy out e
unsent out (entry.Arrive p stamp env) is = tt
unsent out (entry.Took p i env) is = tt
unsent out (entry.Found p i env) is = tt
unsent out (entry.Dropped p i env) is = tt
unsent out (entry.Cleared p) is = tt
unsent out (entry.Started p) is = tt
unsent out (entry.Stopped p) is = tt
unsent out (entry.Halted p) is = tt
unsent out (entry.Sent r n m) is = absurd (true≢false (sym is))
unsent out entry.Else is = tt
unsent out (entry.Verdict v) is = tt
unsent out (entry.Failed c) is = tt

-- nor is it sent to any component
unsent_to : (c : CompId) (e : Entry) → is_arrival e ≡ true → sending_to c e ≡ None
unsent_to c (entry.Arrive p stamp env) is = refl
unsent_to c (entry.Took p i env) is = refl
unsent_to c (entry.Found p i env) is = refl
unsent_to c (entry.Dropped p i env) is = refl
unsent_to c (entry.Cleared p) is = refl
unsent_to c (entry.Started p) is = refl
unsent_to c (entry.Stopped p) is = refl
unsent_to c (entry.Halted p) is = refl
unsent_to c (entry.Sent r n m) is = absurd (true≢false (sym is))
unsent_to c entry.Else is = refl
unsent_to c (entry.Verdict v) is = refl
unsent_to c (entry.Failed x) is = refl

-- what goes out on these routes doesn't go out on another
no_sending : (q : RouteId) (out : List RouteId) (e : Entry) → (Contains out q → ⊥) → IsSentBy out e → sending_on q e ≡ None
no_sending q out (entry.Arrive p stamp env) not by = refl
no_sending q out (entry.Took p i env) not by = refl
no_sending q out (entry.Found p i env) not by = refl
no_sending q out (entry.Dropped p i env) not by = refl
no_sending q out (entry.Cleared p) not by = refl
no_sending q out (entry.Started p) not by = refl
no_sending q out (entry.Stopped p) not by = refl
no_sending q out (entry.Halted p) not by = refl
no_sending q out (entry.Sent r n m) not by = at (same_route q r) refl where
  at : (b : Bool) → same_route q r ≡ b → cond {A = Option (ℕ × Stamped)} b (Some (n, m)) None ≡ None
  at true e = absurd (not (subst (Contains out) (sym (route_same q r e)) by))
  at false e = refl
no_sending q out entry.Else not by = refl
no_sending q out (entry.Verdict v) not by = refl
no_sending q out (entry.Failed c) not by = refl

-- what comes on these routes doesn't come on another route to their component
no_coming : (c : CompId) (q : RouteId) (routes : List RouteId) (e : Entry) → q.to.comp ≡ c → All (λ (x : RouteId). x.to.comp ≡ c) routes
    → ((x : RouteId) → Contains routes x → x ≡ q → ⊥) → IsArrivalOn routes e → arrival_on q e ≡ None
no_coming c q routes (entry.Arrive p stamp env) to here not h = at ((q.to.port == p) && (q.source.0 == env.sender)) refl where
  at : (b : Bool) → ((q.to.port == p) && (q.source.0 == env.sender)) ≡ b
      → cond {A = Option (ℕ × Stamped)} b (Some (env.number, record { stamp = stamp; message = env.msg })) None ≡ None
  at true e =
      let g = and_parts (eqb q.to.port p) (eqb q.source.0 env.sender) e in
      let port : h.0.to.port ≡ q.to.port = h.2 ∙ sym (eqb-true q.to.port p g.0) in
      let source : h.0.source.0 ≡ q.source.0 = h.3 ∙ sym (eqb-true q.source.0 env.sender g.1) in
      let comp : h.0.to.comp ≡ q.to.comp = All-contains (λ (x : RouteId). x.to.comp ≡ c) routes h.0 here h.1 ∙ sym to in
      absurd (not h.0 h.1 (λ i. record { source = record { 0 = source i }; to = record { comp = comp i; port = port i } }))
  at false e = refl
no_coming c q routes (entry.Took p i env) to here not h = refl
no_coming c q routes (entry.Found p i env) to here not h = refl
no_coming c q routes (entry.Dropped p i env) to here not h = refl
no_coming c q routes (entry.Cleared p) to here not h = refl
no_coming c q routes (entry.Started p) to here not h = refl
no_coming c q routes (entry.Stopped p) to here not h = refl
no_coming c q routes (entry.Halted p) to here not h = refl
no_coming c q routes (entry.Sent r n m) to here not h = refl
no_coming c q routes entry.Else to here not h = refl
no_coming c q routes (entry.Verdict v) to here not h = refl
no_coming c q routes (entry.Failed x) to here not h = refl

-- what gives nothing of each item gives nothing
all_none : {X Y : Type 0} (h : X → Option Y) (P : X → Type 0) (xs : List X) → ((x : X) → P x → h x ≡ None) → All P xs → filter_map h xs ≡ []
all_none h P [] each all = refl
all_none h P (x ∷ xs) each all = rw (each x (All-head P x xs all)) (all_none h P xs each (All-tail P x xs all))

-- nothing was sent on a route that none of these is
pub none_sent : (q : RouteId) (out : List RouteId) (k : List Entry) → (Contains out q → ⊥) → All (IsSentBy out) k → sent_on q k ≡ []
unfolding sent_on
none_sent q out k not all = all_none (sending_on q) (IsSentBy out) k (λ e by. no_sending q out e not by) all

-- nothing came on a route that none of these is
pub none_came : (c : CompId) (q : RouteId) (routes : List RouteId) (k : List Entry) → q.to.comp ≡ c → All (λ (x : RouteId). x.to.comp ≡ c) routes
    → ((x : RouteId) → Contains routes x → x ≡ q → ⊥) → All (IsArrivalOn routes) k → arrived_on q k ≡ []
unfolding arrived_on
none_came c q routes k to here not all = all_none (arrival_on q) (IsArrivalOn routes) k (λ e h. no_coming c q routes e to here not h) all

-- on a route as much arrived as the arrivals say
pub arrived_in : (q : RouteId) (k : List Entry) → arrived_on q (arrivals k) ≡ arrived_on q k
unfolding arrived_on arrivals
arrived_in q [] = refl
arrived_in q (e ∷ k) = by (is_arrival e) refl (arrived_in q k) where
  by : (b : Bool) → is_arrival e ≡ b → filter_map (arrival_on q) (filter is_arrival k) ≡ filter_map (arrival_on q) k
      → filter_map (arrival_on q) (cond b (e ∷ filter is_arrival k) (filter is_arrival k)) ≡ cons_option (arrival_on q e) (filter_map (arrival_on q) k)
  by true is rest = ap (cons_option (arrival_on q e)) rest
  by false is rest = rw (no_arrival q e is) rest

-- what is sent is what was sent before, and what the entry sends
pub sent_more : (q : RouteId) (k es : List Entry) → sent_on q (k ++ es) ≡ sent_on q k ++ sent_on q es
unfolding sent_on
sent_more q k es = filter_map-append (sending_on q) k es

-- what was sent to a component, over two parts of a history
pub sent_to_more : (c : CompId) (k l : List Entry) → sent_to c (k ++ l) ≡ sent_to c k ++ sent_to c l
unfolding sent_to
sent_to_more c k l = filter_map-append (sending_to c) k l

-- arrivals are sent to nobody
pub arrivals_to_none : (c : CompId) (es : List Entry) → All (λ e. is_arrival e ≡ true) es → sent_to c es ≡ []
unfolding sent_to
arrivals_to_none c es are = all_none (sending_to c) (λ e. is_arrival e ≡ true) es (unsent_to c) are
