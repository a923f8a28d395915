-- What a run has come to, once all has come to each component.
use Rattle.std.proofs.Common.{◌≡◌, ◌≢◌, ◌⊎◌, inl, inr, ℕ, zero, suc, ◌<◌, Bool, true, false, cond, Some, List, [], ◌∷◌, length, map, refl, sym, ap, ◌∙◌, subst, All, Contains, arith}
use Rattle.std.specs.Prelude.{filter, slice_get}
use Rattle.std.specs.List.{AllZip}
use Rattle.std.specs.Option.{option_map_or}
use Rattle.std.proofs.lemmas.List.{length-map}
use Rattle.std.proofs.lemmas.List.Elements.{All-contains, All-head, All-nil, All-cons, All-tail}
use Rattle.std.proofs.lemmas.Option.{same_Some}
use Rattle.std.proofs.lemmas.Slice.Zip.{AllZip-long}
use Rattle.tp_common.specs.declared.event.Env.{Env}
use Rattle.tp_value.specs.declared.message.Message.{Message}
use Rattle.tp_config.specs.declared.port_type.CompId.{CompId}
use Rattle.tp_config.specs.declared.port_type.RouteId.{RouteId}
use Rattle.tp_config.specs.Setup.{Setup}
use Rattle.tp_config.specs.Allowed.{IsSetup}
use Rattle.tp_config.specs.Routes.{routes_into}
use Rattle.tp_inbox.specs.declared.entry.Entry.{Entry}
use Rattle.tp_inbox.specs.declared.entry.Entry.TheVariants as entry
use Rattle.tp_inbox.specs.History.{arrivals, arrived_from, is_arrival, sent_on, sent_to}
use Rattle.tp_inbox.specs.Ledgers.{Inbox}
use Rattle.tp_inbox.specs.Routed.{IsArrivalOn, rest_arrivals, sources_of}
use Rattle.tp_inbox.proofs.InboxRestAfterHistory.{rest_sends_nothing, rest_sends_to_none}
use Rattle.tp_behaviour.specs.Moments.{moments}
use Rattle.tp_behaviour.specs.Outboxes.{routes_of}
use Rattle.tp_behaviour.proofs.TraceGrowth.{moments-arrivals}
use Rattle.tp_exec.specs.declared.ended.EndedComponent.{EndedComponent}
use Rattle.tp_exec.specs.declared.played.Played.{Played}
use Rattle.tp_exec.specs.Delivery.{IsDeliveredBetween, IsOnRoute}
use Rattle.tp_exec.specs.Rounds.{AreWorkers, comp_at, workers_of}
use Rattle.tp_exec.specs.Settlings.{AreSettled, IsAllThere, IsSettled}
use Rattle.tp_exec.specs.ReturnedSenders.{HasCome, HasComeFrom, HasEndedWithAll, IsEndingOf, idle_of, log_at}
use Rattle.tp_exec.proofs.NoMessagesWithoutRoutes.{none_came, none_sent, links_out}
use Rattle.tp_exec.proofs.RoutesBySourceComponent.{source_or_not}
use Rattle.tp_exec.proofs.IncomingRouteEnds.{leads_to, receiver_within, source_within}
use Rattle.tp_exec.proofs.SendersAfterBehaviours.{at_place, long, consistent_at, worker_at}

-- of two lists that fit place by place, what stands beside an element of the second
beside_second : {A B C : Type 0} (f : A → B) (R : B → C → Type 0) (xs : List A) (ys : List C) → AllZip R (map f xs) ys → (k : ℕ) (y : C)
    → slice_get ys k ≡ Some y → (x : A) × (slice_get xs k ≡ Some x) × R (f x) y
beside_second f R [] [] z k y is = absurd (cc)
beside_second f R [] (y ∷ ys) z k w is = absurd z
beside_second f R (x ∷ xs) [] z k y is = absurd z
beside_second f R (x ∷ xs) (y ∷ ys) z zero w is = (x, refl, subst (R (f x)) (same_Some y w is) z.0)
beside_second f R (x ∷ xs) (y ∷ ys) z (suc k) w is = beside_second f R xs ys z.1 k w is

-- and beside one of the first
beside_first : {A B C : Type 0} (f : A → B) (R : B → C → Type 0) (xs : List A) (ys : List C) → AllZip R (map f xs) ys → (k : ℕ) (x : A)
    → slice_get xs k ≡ Some x → (y : C) × (slice_get ys k ≡ Some y) × R (f x) y
beside_first f R [] ys z k x is = absurd (cc)
beside_first f R (x ∷ xs) [] z k w is = absurd z
beside_first f R (x ∷ xs) (y ∷ ys) z zero w is = (y, refl, subst (λ v. R (f v) y) (same_Some x w is) z.0)
beside_first f R (x ∷ xs) (y ∷ ys) z (suc k) w is = beside_first f R xs ys z.1 k w is

-- the rest of an inbox arrives
rest_arrives : (rest : List (ℕ × Env Message × ℕ)) (e : Entry) → Contains (rest_arrivals rest) e → is_arrival e ≡ true
rest_arrives rest e is = All-contains (λ x. is_arrival x ≡ true) (rest_arrivals rest) e (each rest) is where
  each : (xs : List (ℕ × Env Message × ℕ)) → All (λ x. is_arrival x ≡ true) (rest_arrivals xs)
  each [] = All-nil (λ x. is_arrival x ≡ true)
  each (x ∷ xs) = All-cons (λ x. is_arrival x ≡ true) (entry.Arrive x.0 x.2 x.1) (rest_arrivals xs) refl (each xs)

-- an entry before these arrivals, where it and they are of routes into the component
entry_on : (s : Setup) (c : CompId) (e : Entry) (es : List Entry) (b : Bool) → is_arrival e ≡ b → All (IsArrivalOn (routes_into s c)) (cond b (e ∷ es) es)
    → IsOnRoute s c e × All (IsArrivalOn (routes_into s c)) es
entry_on s c (entry.Arrive port stamp env) es true is all = (
  All-head (IsArrivalOn (routes_into s c)) (entry.Arrive port stamp env) es all,
  All-tail (IsArrivalOn (routes_into s c))
      (entry.Arrive port stamp env) es all,
)
entry_on s c (entry.Arrive port stamp env) es false is all = absurd (cc)
entry_on s c (entry.Took port branch env) es false is all = (tt, all)
entry_on s c (entry.Found port branch env) es false is all = (tt, all)
entry_on s c (entry.Dropped port branch env) es false is all = (tt, all)
entry_on s c (entry.Cleared port) es false is all = (tt, all)
entry_on s c (entry.Started port) es false is all = (tt, all)
entry_on s c (entry.Stopped port) es false is all = (tt, all)
entry_on s c (entry.Halted port) es false is all = (tt, all)
entry_on s c (entry.Sent r number m) es false is all = (tt, all)
entry_on s c entry.Else es false is all = (tt, all)
entry_on s c (entry.Verdict v) es false is all = (tt, all)
entry_on s c (entry.Failed fault) es false is all = (tt, all)
entry_on s c _ es true is all = absurd (cc)

-- where all arrivals are of routes into the component, so are all of its entries
all_on : (s : Setup) (c : CompId) (k : List Entry) → All (IsArrivalOn (routes_into s c)) (arrivals k) → All (IsOnRoute s c) k
unfolding arrivals
all_on s c [] all = All-nil (IsOnRoute s c)
all_on s c (e ∷ k) all =
    let here = entry_on s c e (filter is_arrival k) (is_arrival e) refl all in
    All-cons (IsOnRoute s c) e k here.0 (all_on s c k here.1)

-- more has come to the component, that is all
settled_as : (p : Played) (e : EndedComponent) → IsEndingOf (idle_of p) e → IsSettled p e
settled_as p e h = record {
  outcome = h.outcome;
  comp = h.comp;
  ports = h.ports;
  rest = h.rest;
  grown = h.grown;
  sound = h.sound;
}

-- the behaviour has done no more
pub same_moments : (p : Played) (e : EndedComponent) → IsSettled p e → moments e.desk.log ≡ moments p.worker.desk.log
same_moments p e h = ap moments h.grown ∙ moments-arrivals p.worker.desk.log (rest_arrivals h.rest) (rest_arrives h.rest)

-- so it has sent no more
sent_as : (p : Played) (e : EndedComponent) → IsEndingOf (idle_of p) e → (r : RouteId) → sent_on r e.desk.log ≡ sent_on r p.worker.desk.log
sent_as p e h r = ap (sent_on r) h.grown ∙ rest_sends_nothing r p.worker.desk.log h.rest

module _ (s : Setup) (l : IsSetup s) (played : List Played) (h : AreWorkers s (workers_of played)) (ended : List EndedComponent)
    (z : AllZip (HasEndedWithAll (log_at played)) (map idle_of played) ended) where
  player_of : (k : ℕ) (e : EndedComponent) → slice_get ended k ≡ Some e → (p : Played) × (slice_get played k ≡ Some p) × HasEndedWithAll (log_at played) (idle_of p) e
  player_of k e is = beside_second idle_of (HasEndedWithAll (log_at played)) played ended z k e is

  -- the component of a number below that of the components
  comp_of : (k : ℕ) → k < length s.components → (p : Played) × (slice_get played k ≡ Some p)
      × ((e : EndedComponent) × (slice_get ended k ≡ Some e) × HasEndedWithAll (log_at played) (idle_of p) e)
  comp_of k low =
      let p = at_place played k (omega (arith, low, long s l played h)) in
      (p.0, p.1, beside_first idle_of (HasEndedWithAll (log_at played)) played ended z k p.0 p.1)

  routes_at : (k : ℕ) (p : Played) → slice_get played k ≡ Some p → p.worker.owner.inbox.routes ≡ routes_into s (comp_at k)
  routes_at k p is = h.routes k p.worker (worker_at s l played h k p is)

  -- the history of a component before the last messages came
  log_of : (k : ℕ) (p : Played) → slice_get played k ≡ Some p → log_at played k ≡ p.worker.desk.log
  log_of k p is = ap (λ o. option_map_or (λ (x : Played). x.worker.desk.log) o []) is

  there : (k : ℕ) (r : RouteId) → Contains (routes_into s (comp_at k)) r → IsAllThere ended r
  there k r is =
      let receiver = comp_of r.to.comp.0 (receiver_within s l (comp_at k) r is) in
      let source = comp_of r.source.0 (source_within s l (comp_at k) r is) in
      let to : r.to.comp ≡ comp_at k = leads_to s l (comp_at k) r is in
      let into : Contains (routes_into s r.to.comp) r = subst (λ c. Contains (routes_into s c) r) (sym to) is in
      let known : Contains receiver.0.worker.owner.inbox.routes r = subst (λ rs. Contains rs r) (sym (routes_at r.to.comp.0 receiver.0 receiver.1)) into in
      let come = All-contains (HasCome (log_at played) receiver.2.0) receiver.0.worker.owner.inbox.routes r receiver.2.2.come.routes known in
      let sent = sent_as source.0 source.2.0 source.2.2.end r ∙ ap (sent_on r) (sym (log_of r.source.0 source.0 source.1)) ∙ come.sent in record {
        source = source.2.0;
        source_is = source.2.1;
        receiver = receiver.2.0;
        receiver_is = receiver.2.1;
        same = sent ∙ sym come.arrived;
        ledger = come.ledger;
        numbered = sent;
        counted = come.counted;
      }

  -- one with routes to a component has sent there what has come from it, and one with none has sent nothing
  from_to : (c d : CompId) (p q : Played) (y : EndedComponent) → slice_get played c.0 ≡ Some p → slice_get played d.0 ≡ Some q → HasEndedWithAll (log_at played) (idle_of q) y
      → q.worker.owner.inbox.comp ≡ d → IsDeliveredBetween c d p.worker.desk.log y.desk.log
  from_to c d p q y at to done here = by (source_or_not inbox.routes c) where
    inbox : Inbox
    inbox = q.worker.owner.inbox

    log : List Entry
    log = p.worker.desk.log

    by : Contains (sources_of inbox.routes) c ⊎ ((r : RouteId) → Contains inbox.routes r → r.source ≢ c) → sent_to d log ≡ arrived_from d c y.desk.log
    by (inl has) =
        let come : HasComeFrom (log_at played) inbox y c =
        All-contains (HasComeFrom (log_at played) inbox y) (sources_of inbox.routes) c done.come.sources has in
        subst (λ (e : CompId). sent_to e log ≡ arrived_from e c y.desk.log) here (ap (sent_to inbox.comp) (sym (log_of c.0 p at)) ∙ come)
    by (inr none) =
        let out : List RouteId = routes_of p.worker.outbox in
        let workers = workers_of played in
        let not_there : (r : RouteId) → Contains out r → r.to.comp ≢ d = λ r has leads.
        let w = links_out s workers h c.0 p.worker (worker_at s l played h c.0 p at) r has in
        let into : Contains inbox.routes r = subst (λ rs. Contains rs r) (sym (routes_at d.0 q to))
        (subst (λ (e : CompId). Contains (routes_into s e) r) leads w.1) in
        none r into w.0 in
        none_sent d out not_there log (consistent_at s l played h c.0 p at).sent ∙ sym (none_came d c inbox.routes none y.desk.log done.end.routed)

  between : (c d : CompId) (x y : EndedComponent) → slice_get ended c.0 ≡ Some x → slice_get ended d.0 ≡ Some y → IsDeliveredBetween c d x.desk.log y.desk.log
  between c d x y from to =
      let p = player_of c.0 x from in
      let q = player_of d.0 y to in
      let sent : sent_to d x.desk.log ≡ sent_to d p.0.worker.desk.log =
      ap (sent_to d) p.2.end.grown ∙ rest_sends_to_none d p.0.worker.desk.log p.2.end.rest in
      sent ∙ from_to c d p.0 q.0 y p.1 q.1 q.2 (consistent_at s l played h d.0 q.0 q.1).ends.comp

  -- all messages have come to those who played
  pub all_settled : AreSettled s played ended
  all_settled = record {
    each = λ k e is. let p = player_of k e is in (p.0, p.1, settled_as p.0 e p.2.end);
    come = record {
      everyone = AllZip-long (HasEndedWithAll (log_at played)) (map idle_of played) ended z ∙ length-map played idle_of ∙ long s l played h;
      routed = λ k e is. let p = player_of k e is in
          all_on s (comp_at k) e.desk.log (subst (λ rs. All (IsArrivalOn rs) (arrivals e.desk.log)) (routes_at k p.0 p.1) p.2.end.routed);
      there = there;
      between = between;
      counts = λ k e is. let p = player_of k e is in p.2.end.counts ∙ routes_at k p.0 p.1;
    };
  }
