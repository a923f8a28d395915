-- What came from a component and what was sent to one, route by route.
use Rattle.std.proofs.Common.{◌≡◌, ℕ, Bool, true, false, cond, eqb, eq-eqb, Some, None, List, [], ◌∷◌, refl, sym, ap, ◌∙◌, true≢false}
use Rattle.std.specs.Prelude.{◌&&◌}
use Rattle.std.specs.List.{filter_map, cons_option}
use Rattle.std.proofs.lemmas.Bool.{and_from, and_parts}
use Rattle.tp_config.specs.declared.port_type.CompId.{CompId}
use Rattle.tp_config.specs.declared.port_type.RouteId.{RouteId}
use Rattle.tp_inbox.specs.declared.stamped.Stamped.{Stamped}
use Rattle.tp_inbox.specs.declared.posted.Posted.{Posted}
use Rattle.tp_inbox.specs.declared.entry.Entry.{Entry}
use Rattle.tp_inbox.specs.declared.entry.Entry.TheVariants as entry
use Rattle.tp_inbox.specs.History.{arrival_on, arrived_on, arrival_from, arrived_from, posting_on, posted_on, same_route, sending_on, sent_on, sending_to, sent_to}

-- an arrival of a route from the component, or of another
kept_or_not : (r : RouteId) (a b : Bool) (x : Posted) (y : ℕ × Stamped) (xs : List Posted) → posting_on r x ≡ cond b (Some y) None
    → filter_map (posting_on r) (cons_option (cond a (Some x) None) xs) ≡ cons_option (cond (b && a) (Some y) None) (filter_map (posting_on r) xs)
kept_or_not r true true x y xs h = ap (λ o. cons_option o (filter_map (posting_on r) xs)) h
kept_or_not r true false x y xs h = ap (λ o. cons_option o (filter_map (posting_on r) xs)) h
kept_or_not r false true x y xs h = refl
kept_or_not r false false x y xs h = refl

same_port : (r : RouteId) (comp : CompId) (port : ℕ) → r.to.comp ≡ comp
    → same_route r record { source = r.source; to = record { comp = comp; port = port } } ≡ eqb r.to.port port
same_port r comp port here =
    ap (λ b. b && eqb r.to.port port)
    (and_from (eqb r.source.0 r.source.0) (eqb r.to.comp.0 comp.0) (eq-eqb r.source.0 r.source.0 refl)
    (eq-eqb r.to.comp.0 comp.0 (ap (λ (c : CompId). c.0) here)))

came_one : (comp : CompId) (r : RouteId) → r.to.comp ≡ comp → (e : Entry) (xs : List Posted)
    → filter_map (posting_on r) (cons_option (arrival_from comp r.source e) xs) ≡ cons_option (arrival_on r e) (filter_map (posting_on r) xs)
came_one comp r here (entry.Arrive p stamp env) xs =
    let m : Stamped = record { stamp = stamp; message = env.msg } in
    kept_or_not r (eqb r.source.0 env.sender) (eqb r.to.port p)
    record { route = record { source = r.source; to = record { comp = comp; port = p } }; number = env.number; stamped = m } (env.number, m) xs
    (ap (λ b. cond b (Some (env.number, m)) None) (same_port r comp p here))
came_one comp r here (entry.Took p b env) xs = refl
came_one comp r here (entry.Found p b env) xs = refl
came_one comp r here (entry.Dropped p b env) xs = refl
came_one comp r here (entry.Cleared p) xs = refl
came_one comp r here (entry.Started p) xs = refl
came_one comp r here (entry.Stopped p) xs = refl
came_one comp r here (entry.Halted p) xs = refl
came_one comp r here (entry.Sent q number m) xs = refl
came_one comp r here entry.Else xs = refl
came_one comp r here (entry.Verdict v) xs = refl
came_one comp r here (entry.Failed fault) xs = refl

-- of what came from a component, what is of one of its routes is what came on that route
pub came_on : (comp : CompId) (r : RouteId) → r.to.comp ≡ comp → (k : List Entry) → posted_on r (arrived_from comp r.source k) ≡ arrived_on r k
unfolding posted_on arrived_from arrived_on
came_on comp r here [] = refl
came_on comp r here (e ∷ k) =
    came_one comp r here e (filter_map (arrival_from comp r.source) k) ∙ ap (cons_option (arrival_on r e)) (came_on comp r here k)

-- so that all of a sender's messages have come on each of its routes, if they have come in its order over all of them
pub came_by_routes : (comp source : CompId) (k : List Entry) (ledger : List Posted) → arrived_from comp source k ≡ ledger → (r : RouteId) → r.source ≡ source
    → r.to.comp ≡ comp → arrived_on r k ≡ posted_on r ledger
came_by_routes comp source k ledger is r from here =
    sym (came_on comp r here k) ∙ ap (λ c. posted_on r (arrived_from comp c k)) from ∙ ap (posted_on r) is

-- a sending to the component, or to another
sent_or_not : (comp : CompId) (r q : RouteId) → r.to.comp ≡ comp → (b c : Bool) → eqb comp.0 q.to.comp.0 ≡ b → same_route r q ≡ c → (n : ℕ) (m : Stamped)
    → (xs : List Posted) → filter_map (posting_on r) (cons_option (cond b (Some record { route = q; number = n; stamped = m }) None) xs)
    ≡ cons_option (cond c (Some (n, m)) None) (filter_map (posting_on r) xs)
sent_or_not comp r q here true c is same n m xs = ap (λ x. cons_option (cond x (Some (n, m)) None) (filter_map (posting_on r) xs)) same
sent_or_not comp r q here false false is same n m xs = refl
sent_or_not comp r q here false true is same n m xs =
    let h = and_parts (eqb r.source.0 q.source.0 && eqb r.to.comp.0 q.to.comp.0) (eqb r.to.port q.to.port) same in
    let k = and_parts (eqb r.source.0 q.source.0) (eqb r.to.comp.0 q.to.comp.0) h.0 in
    absurd (true≢false (sym k.1 ∙ ap (λ (c : CompId). eqb c.0 q.to.comp.0) here ∙ is))

sent_one : (comp : CompId) (r : RouteId) → r.to.comp ≡ comp → (e : Entry) (xs : List Posted)
    → filter_map (posting_on r) (cons_option (sending_to comp e) xs) ≡ cons_option (sending_on r e) (filter_map (posting_on r) xs)
sent_one comp r here (entry.Sent q number m) xs = sent_or_not comp r q here (eqb comp.0 q.to.comp.0) (same_route r q) refl refl number m xs
sent_one comp r here (entry.Arrive p stamp env) xs = refl
sent_one comp r here (entry.Took p b env) xs = refl
sent_one comp r here (entry.Found p b env) xs = refl
sent_one comp r here (entry.Dropped p b env) xs = refl
sent_one comp r here (entry.Cleared p) xs = refl
sent_one comp r here (entry.Started p) xs = refl
sent_one comp r here (entry.Stopped p) xs = refl
sent_one comp r here (entry.Halted p) xs = refl
sent_one comp r here entry.Else xs = refl
sent_one comp r here (entry.Verdict v) xs = refl
sent_one comp r here (entry.Failed fault) xs = refl

-- of what was sent to a component, what is of one of its routes is what was sent on that route
pub sent_by_routes : (comp : CompId) (r : RouteId) → r.to.comp ≡ comp → (k : List Entry) → posted_on r (sent_to comp k) ≡ sent_on r k
unfolding posted_on sent_to sent_on
sent_by_routes comp r here [] = refl
sent_by_routes comp r here (e ∷ k) =
    sent_one comp r here e (filter_map (sending_to comp) k) ∙ ap (cons_option (sending_on r e)) (sent_by_routes comp r here k)
