-- What stays true of a worker as its history grows.
use Rattle.std.proofs.Common.{◌≡◌, ◌⊎◌, inl, inr, zero, suc, Bool, true, false, List, [], ◌∷◌, ◌++◌, Contains, length, refl, sym, ap, ◌∙◌, subst, rules, arith, ◌<◌, true≢false}
use Rattle.std.specs.Prelude.{All}
use Rattle.std.proofs.lemmas.List.Elements.{All-nil, All-cons, All-head, All-tail, All-contains, All-append}
use Rattle.std.proofs.lemmas.List.{append-nil}
use Rattle.tp_config.specs.declared.port_type.CompId.{CompId}
use Rattle.tp_config.specs.declared.port_type.RouteId.{RouteId}
use Rattle.tp_inbox.specs.declared.entry.Entry.{Entry}
use Rattle.tp_inbox.specs.History.{is_arrival, arrivals, arrived_on, posted_on, same_route, sent_on, sent_to}
use Rattle.tp_inbox.specs.Desks.{Journal, adding_all}
use Rattle.tp_inbox.specs.Ledgers.{Draining, Inbox, IsDeskOf, SenderLedger}
use Rattle.tp_inbox.specs.Routed.{IsArrivalOn}
use Rattle.tp_inbox.proofs.SenderPutInvariants.{route_itself, route_same}
use Rattle.tp_inbox.proofs.ComponentMessagesByRoute.{sent_by_routes}
use Rattle.tp_behaviour.specs.declared.worker.Worker.{Worker}
use Rattle.tp_behaviour.specs.Fresh.{HasOwn, LooksAtPorts}
use Rattle.tp_behaviour.specs.Held.{Actor}
use Rattle.tp_behaviour.specs.Moments.{Moment, moments}
use Rattle.tp_behaviour.specs.Outboxes.{IsHome, IsLevel, IsLevelOn, LeadsBack, routes_of}
use Rattle.tp_behaviour.specs.Workers.{IsConsistent, IsLedgerOf, AreEndsOf, KeepsInboxes, IsSenderOf, IsSentBy}
use Rattle.tp_behaviour.proofs.RouteHistoryGrowth.{arrivals_to_none, arrived_in, arrives, none_came, none_sent, sent_to_more, unsent}
use Rattle.tp_behaviour.proofs.TraceGrowth.{moments-arrivals}
use Rattle.tp_behaviour.proofs.OutboxSendersByRoute.{contained, standing}

-- what all of these have, all of those have
pub all_as : {X : Type 0} (P Q : X → Type 0) (xs : List X) → ((x : X) → P x → Q x) → All P xs → All Q xs
all_as P Q [] leads h = All-nil Q
all_as P Q (x ∷ xs) leads h = All-cons Q x xs (leads x (All-head P x xs h)) (all_as P Q xs leads (All-tail P x xs h))

-- what all have, those at the end have
all_behind : {X : Type 0} (P : X → Type 0) (xs ys : List X) → All P (xs ++ ys) → All P ys
all_behind P [] ys h = h
all_behind P (x ∷ xs) ys h = all_behind P xs ys (All-tail P x (xs ++ ys) h)

-- the worker, once these have arrived
pub drained : (r : Actor) (s : Worker) (o : Draining) (d : Journal) (more : List Entry) → IsConsistent r s → o.inbox ≡ s.owner.inbox → d ≡ adding_all s.desk more
    → o.drained ≡ s.owner.drained ++ more → arrivals d.log ≡ o.drained → All (IsArrivalOn o.inbox.routes) o.drained
    → (moments d.log ≡ moments s.desk.log) × IsConsistent r (record { owner = o; desk = d; outbox = s.outbox })
drained r s o d more m same grown longer arrived routed = (
  trace,
  record {
    ends = subst (λ (i : Inbox). AreEndsOf r i out) (sym same) m.ends;
    desk = subst (λ (i : Inbox). IsDeskOf i d) (sym same) (subst (IsDeskOf s.owner.inbox) (sym grown) m.desk);
    arrived = arrived;
    noted = all_as (IsLedgerOf s.desk.log) (IsLedgerOf d.log) s.outbox (λ x h. as_sent x.inbox.comp ∙ h) m.noted;
    theirs = m.theirs;
    sent = subst (All (IsSentBy out)) (sym log)
        (All-append (IsSentBy out) s.desk.log more m.sent (all_as (λ e. is_arrival e ≡ true) (IsSentBy out) more (unsent out) are));
    fresh = subst (All (λ (t : Moment). LooksAtPorts t.entry → HasOwn r.comp t.before)) (sym trace) m.fresh;
  },
)
  where
    out : List RouteId
    out = routes_of s.outbox

    log : d.log ≡ s.desk.log ++ more
    log = ap (λ (j : Journal). j.log) grown

    are : All (λ e. is_arrival e ≡ true) more
    are = all_as (IsArrivalOn o.inbox.routes) (λ e. is_arrival e ≡ true) more (arrives o.inbox.routes)
        (all_behind (IsArrivalOn o.inbox.routes) s.owner.drained more (subst (All (IsArrivalOn o.inbox.routes)) longer routed))

    trace : moments d.log ≡ moments s.desk.log
    trace = ap moments log ∙ moments-arrivals s.desk.log more (λ e h. All-contains (λ x. is_arrival x ≡ true) more e are h)

    as_sent : (c : CompId) → sent_to c d.log ≡ sent_to c s.desk.log
    as_sent c =
        ap (sent_to c) log ∙ sent_to_more c s.desk.log more ∙ ap (λ l. sent_to c s.desk.log ++ l) (arrivals_to_none c more are)
        ∙ append-nil (sent_to c s.desk.log)

-- the route is one of these, or it isn't
on_route : (q : RouteId) (rs : List RouteId) → Contains rs q ⊎ (Contains rs q → ⊥)
on_route q [] = inr (λ c. (let no : c.0 < 0 = c.1 in absurd (omega (arith, no))))
on_route q (r ∷ rs) = by (same_route q r) refl (on_route q rs) where
  further : (Contains rs q → ⊥) → same_route q r ≡ false → Contains (r ∷ rs) q → ⊥
  further not other (zero, below, is) = true≢false (sym (subst (λ p. same_route q p ≡ true) (sym is) (route_itself q)) ∙ other)
  further not other (suc k, below, is) = not (k, search rules, is)

  by : (b : Bool) → same_route q r ≡ b → Contains rs q ⊎ (Contains rs q → ⊥) → Contains (r ∷ rs) q ⊎ (Contains (r ∷ rs) q → ⊥)
  by true e rest = inl (0, search rules, sym (route_same q r e))
  by false e (inl (k, below, is)) = inl (suc k, search rules, is)
  by false e (inr not) = inr (further not e)

-- a sender that leads back leads to the component's own inbox
pub at_home : (r : Actor) (s : Worker) → IsConsistent r s → All (IsHome s.owner.inbox) s.outbox
at_home r s m = all_as (IsSenderOf r.comp) (IsHome s.owner.inbox) s.outbox (λ x h back. back ∙ h.0 ∙ sym m.ends.comp) m.theirs

-- all that the component has sent to itself is there, where each of its senders that lead back is level
pub has_own : (r : Actor) (s : Worker) → IsConsistent r s → All (IsArrivalOn s.owner.inbox.routes) s.owner.drained
    → ((x : SenderLedger) → Contains s.outbox x → LeadsBack x → IsLevel s.owner.drained x) → HasOwn r.comp s.desk.log
has_own r s m routed level q from to = by (on_route q out) where
  out : List RouteId
  out = routes_of s.outbox

  came : arrived_on q s.desk.log ≡ arrived_on q s.owner.drained
  came = sym (arrived_in q s.desk.log) ∙ ap (arrived_on q) m.arrived

  by : Contains out q ⊎ (Contains out q → ⊥) → length (arrived_on q s.desk.log) ≡ length (sent_on q s.desk.log)
  by (inl c) =
      let t = standing q s.outbox c in
      let x = t.1 in
      let here : Contains s.outbox x = contained s.outbox t.0 x t.3 in
      let way : Contains x.routes q = contained x.routes t.2 q t.4 in
      let ours = All-contains (IsSenderOf r.comp) s.outbox x m.theirs here in
      let there : q.to.comp ≡ x.inbox.comp = All-contains (λ (p : RouteId). p.to.comp ≡ x.inbox.comp) x.routes q ours.1 way in
      let note : posted_on q x.ledger ≡ sent_on q s.desk.log =
      ap (posted_on q) (sym (All-contains (IsLedgerOf s.desk.log) s.outbox x m.noted here)) ∙ sent_by_routes x.inbox.comp q there s.desk.log in
      ap length came ∙ All-contains (IsLevelOn s.owner.drained x) x.routes q (level x here (sym there ∙ to ∙ sym ours.0)) way ∙ ap length note
  by (inr not) =
      let no : (p : RouteId) → Contains s.owner.inbox.routes p → p ≡ q → ⊥ =
      λ p c e. not
      (subst (Contains out) e
      (All-contains (λ (x : RouteId). x.source ≡ r.comp → Contains out x) s.owner.inbox.routes p m.ends.loops c
      (ap (λ (x : RouteId). x.source) e ∙ from))) in
      let nothing : arrived_on q s.owner.drained ≡ [] = none_came r.comp q s.owner.inbox.routes s.owner.drained to m.ends.here no routed in
      ap length (came ∙ nothing) ∙ ap length (sym (none_sent q out s.desk.log not m.sent))

-- what stays the same twice stays the same
pub same_then : (a b c : Worker) → KeepsInboxes a b → KeepsInboxes b c → KeepsInboxes a c
same_then a b c p q = record { inbox = q.inbox ∙ p.inbox; ends = q.ends ∙ p.ends }

pub same_itself : (a : Worker) → KeepsInboxes a a
same_itself a = record { inbox = refl; ends = refl }
