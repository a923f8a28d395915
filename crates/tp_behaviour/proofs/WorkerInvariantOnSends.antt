-- What stays true of a worker as its behaviour sends.
use Rattle.std.proofs.Common.{◌≡◌, ◌∙◌, ℕ, Bool, true, false, cond, eqb, Some, None, Option, List, [], ◌∷◌, ◌++◌, map, Contains, length, refl, sym, ap, subst}
use Rattle.std.specs.Prelude.{All}
use Rattle.std.specs.List.{cons_option}
use Rattle.std.proofs.lemmas.Bool.{eqb-true}
use Rattle.std.proofs.lemmas.List.{append-nil}
use Rattle.std.proofs.lemmas.List.Elements.{All-nil, All-cons, All-contains, All-head, All-push, All-tail}
use Rattle.tp_config.specs.declared.port_type.CompId.{CompId}
use Rattle.tp_config.specs.declared.port_type.RouteId.{RouteId}
use Rattle.tp_inbox.specs.declared.stamped.Stamped.{Stamped}
use Rattle.tp_inbox.specs.declared.posted.Posted.{Posted}
use Rattle.tp_inbox.specs.declared.entry.Entry.{Entry}
use Rattle.tp_inbox.specs.declared.entry.Entry.TheVariants as entry
use Rattle.tp_inbox.specs.History.{arrivals, posted_on, sent_on, sent_to}
use Rattle.tp_inbox.specs.Desks.{Journal, adding}
use Rattle.tp_inbox.specs.Ledgers.{IsDeskOf, SenderLedger, end_of, posting}
use Rattle.tp_inbox.proofs.ComponentMessagesByRoute.{sent_by_routes}
use Rattle.tp_behaviour.specs.declared.worker.Worker.{Worker}
use Rattle.tp_behaviour.specs.Fresh.{Fresh}
use Rattle.tp_behaviour.specs.Held.{Actor}
use Rattle.tp_behaviour.specs.Looks.{moment}
use Rattle.tp_behaviour.specs.Moments.{moments}
use Rattle.tp_behaviour.specs.Outboxes.{HasPut, put_on, routes_of}
use Rattle.tp_behaviour.specs.Workers.{IsConsistent, IsLedgerOf, AreEndsOf, IsSenderOf, IsSentBy}
use Rattle.tp_behaviour.proofs.RouteHistoryGrowth.{sent_to_more}
use Rattle.tp_behaviour.proofs.TraceGrowth.{moments-own}
use Rattle.tp_behaviour.proofs.WorkerInvariantOnActions.{arrivals_same, fresh_more}
use Rattle.tp_behaviour.proofs.OutboxSendersByRoute.{same_comp}

-- a put changes no sender's inbox and routes
same_end : (q : RouteId) (m : Stamped) (s : SenderLedger) (b : Bool) → end_of (cond b (posting s q m) s) ≡ end_of s
same_end q m s true = refl
same_end q m s false = refl

pub same_ends : (q : RouteId) (m : Stamped) (ss : List SenderLedger) → map end_of (map (put_on q m) ss) ≡ map end_of ss
same_ends q m [] = refl
same_ends q m (s ∷ ss) = λ i. same_end q m s (eqb s.inbox.comp.0 q.to.comp.0) i ∷ same_ends q m ss i

same_one : (q : RouteId) (m : Stamped) (s : SenderLedger) (b : Bool) → (cond b (posting s q m) s).routes ≡ s.routes
same_one q m s true = refl
same_one q m s false = refl

pub same_routes : (q : RouteId) (m : Stamped) (ss : List SenderLedger) → routes_of (map (put_on q m) ss) ≡ routes_of ss
same_routes q m [] = refl
same_routes q m (s ∷ ss) = λ i. same_one q m s (eqb s.inbox.comp.0 q.to.comp.0) i ++ same_routes q m ss i

theirs_one : (c : CompId) (q : RouteId) (m : Stamped) (s : SenderLedger) (b : Bool) → IsSenderOf c s → IsSenderOf c (cond b (posting s q m) s)
theirs_one c q m s true h = h
theirs_one c q m s false h = h

theirs_all : (c : CompId) (q : RouteId) (m : Stamped) (ss : List SenderLedger) → All (IsSenderOf c) ss → All (IsSenderOf c) (map (put_on q m) ss)
theirs_all c q m [] all = All-nil (IsSenderOf c)
theirs_all c q m (s ∷ ss) all =
    All-cons (IsSenderOf c) (put_on q m s) (map (put_on q m) ss)
    (theirs_one c q m s (eqb s.inbox.comp.0 q.to.comp.0) (All-head (IsSenderOf c) s ss all))
    (theirs_all c q m ss (All-tail (IsSenderOf c) s ss all))

sent_here : (c : CompId) (q : RouteId) (n : ℕ) (m : Stamped) → eqb c.0 q.to.comp.0 ≡ true
    → sent_to c (entry.Sent q n m ∷ []) ≡ record { route = q; number = n; stamped = m } ∷ []
unfolding sent_to
sent_here c q n m e = ap (λ b. cons_option (cond {A = Option Posted} b (Some record { route = q; number = n; stamped = m }) None) []) e

sent_elsewhere : (c : CompId) (q : RouteId) (n : ℕ) (m : Stamped) → eqb c.0 q.to.comp.0 ≡ false → sent_to c (entry.Sent q n m ∷ []) ≡ []
unfolding sent_to
sent_elsewhere c q n m e = ap (λ b. cons_option (cond {A = Option Posted} b (Some record { route = q; number = n; stamped = m }) None) []) e

-- how many were put on a route is how many were sent there
as_many : (k : List Entry) (s : SenderLedger) (q : RouteId) → q.to.comp ≡ s.inbox.comp → IsLedgerOf k s → length (sent_on q k) ≡ length (posted_on q s.ledger)
as_many k s q there noted = ap length (sym (sent_by_routes s.inbox.comp q there k)) ∙ ap (λ l. length (posted_on q l)) noted

-- what a sender has put is what was sent to the component of its inbox, also after one more was put
noted_one : (k : List Entry) (q : RouteId) (n : ℕ) (m : Stamped) (s : SenderLedger) → n ≡ length (sent_on q k) → IsLedgerOf k s
    → IsLedgerOf (k ++ entry.Sent q n m ∷ []) (put_on q m s)
noted_one k q n m s number noted = by (eqb s.inbox.comp.0 q.to.comp.0) refl where
  c : CompId
  c = s.inbox.comp

  more : sent_to c (k ++ entry.Sent q n m ∷ []) ≡ sent_to c k ++ sent_to c (entry.Sent q n m ∷ [])
  more = sent_to_more c k (entry.Sent q n m ∷ [])

  by : (b : Bool) → eqb c.0 q.to.comp.0 ≡ b → IsLedgerOf (k ++ entry.Sent q n m ∷ []) (cond b (posting s q m) s)
  by true e =
      let there : q.to.comp ≡ c = sym (same_comp c q.to.comp (eqb-true c.0 q.to.comp.0 e)) in
      let count : n ≡ length (posted_on q s.ledger) = number ∙ as_many k s q there noted in
      more ∙ (λ i. noted i ++ sent_here c q n m e i) ∙ ap (λ j. s.ledger ++ record { route = q; number = j; stamped = m } ∷ []) count
  by false e = more ∙ ap (λ l. sent_to c k ++ l) (sent_elsewhere c q n m e) ∙ append-nil (sent_to c k) ∙ noted

noted_all : (k : List Entry) (q : RouteId) (n : ℕ) (m : Stamped) (ss : List SenderLedger) → n ≡ length (sent_on q k) → All (IsLedgerOf k) ss
    → All (IsLedgerOf (k ++ entry.Sent q n m ∷ [])) (map (put_on q m) ss)
noted_all k q n m [] number all = All-nil (IsLedgerOf (k ++ entry.Sent q n m ∷ []))
noted_all k q n m (s ∷ ss) number all =
    All-cons (IsLedgerOf (k ++ entry.Sent q n m ∷ [])) (put_on q m s) (map (put_on q m) ss) (noted_one k q n m s number (All-head (IsLedgerOf k) s ss all))
    (noted_all k q n m ss number (All-tail (IsLedgerOf k) s ss all))

-- the worker, once a message was put on a route and this was noted
pub has_sent : (r : Actor) (s : Worker) (d : Journal) (out : List SenderLedger) (q : RouteId) (n : ℕ) (m : Stamped) → IsConsistent r s → Contains (routes_of s.outbox) q
    → HasPut q m n s.outbox out
    → d ≡ adding s.desk (entry.Sent q n m)
    → (n ≡ length (sent_on q s.desk.log)) × (moments d.log ≡ moments s.desk.log ++ moment s.desk (entry.Sent q n m) ∷ [])
    × IsConsistent r (record { owner = s.owner; desk = d; outbox = out })
has_sent r s d out q n m consistent known (one, after) grown = (
  number,
  ap moments log ∙ moments-own s.desk.log (entry.Sent q n m) refl,
  record {
    ends = subst (AreEndsOf r s.owner.inbox) (sym routes) consistent.ends;
    desk = subst (IsDeskOf s.owner.inbox) (sym grown) consistent.desk;
    arrived = ap arrivals log ∙ arrivals_same s.desk.log (entry.Sent q n m) refl ∙ consistent.arrived;
    noted = subst (All (IsLedgerOf d.log)) (sym after)
        (subst (λ k. All (IsLedgerOf k) (map (put_on q m) s.outbox)) (sym log) (noted_all s.desk.log q n m s.outbox number consistent.noted));
    theirs = subst (All (IsSenderOf r.comp)) (sym after) (theirs_all r.comp q m s.outbox consistent.theirs);
    sent = subst (λ l. All (IsSentBy l) d.log) (sym routes)
        (subst (All (IsSentBy (routes_of s.outbox))) (sym log) (All-push (IsSentBy (routes_of s.outbox)) s.desk.log (entry.Sent q n m) consistent.sent known));
    fresh = subst (Fresh r.comp) (sym log) (fresh_more r s.desk.log (entry.Sent q n m) refl consistent.fresh (λ h. absurd h));
  },
)
  where
    log : d.log ≡ s.desk.log ++ entry.Sent q n m ∷ []
    log = ap (λ (j : Journal). j.log) grown

    routes : routes_of out ≡ routes_of s.outbox
    routes = ap routes_of after ∙ same_routes q m s.outbox

    number : n ≡ length (sent_on q s.desk.log)
    number = one.3 ∙ sym (as_many s.desk.log one.0 q one.2 (All-contains (IsLedgerOf s.desk.log) s.outbox one.0 consistent.noted one.1))
