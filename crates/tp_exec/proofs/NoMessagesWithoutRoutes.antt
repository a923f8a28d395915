-- What a component has sent out, and what has come from a component that has no route.
use Rattle.std.proofs.Common.{◌≡◌, ◌≢◌, ◌⊎◌, inl, inr, ℕ, true, false, cond, Some, None, List, [], ◌∷◌, Contains, slice_get, refl, sym, ap, ◌∙◌, subst}
use Rattle.std.specs.Prelude.{All, ◌==◌, filter}
use Rattle.std.specs.List.{cons_option, filter_map}
use Rattle.std.proofs.lemmas.Bool.{cases_Bool, eqb-true}
use Rattle.std.proofs.lemmas.List.Elements.{All-head, All-tail, All-contains}
use Rattle.tp_config.specs.declared.port_type.CompId.{CompId}
use Rattle.tp_config.specs.declared.port_type.RouteId.{RouteId}
use Rattle.tp_config.specs.Setup.{Setup}
use Rattle.tp_config.specs.Routes.{routes_into}
use Rattle.tp_config.proofs.RouteLaws.{map_contains}
use Rattle.tp_inbox.specs.declared.entry.Entry.{Entry}
use Rattle.tp_inbox.specs.declared.entry.Entry.TheVariants as entry
use Rattle.tp_inbox.specs.declared.posted.Posted.{Posted}
use Rattle.tp_inbox.specs.History.{arrival_from, arrivals, arrived_from, sending_to, sent_to}
use Rattle.tp_inbox.specs.Routed.{IsArrivalOn}
use Rattle.tp_inbox.specs.Ledgers.{SenderLedger, end_of}
use Rattle.tp_inbox.proofs.ArrivalsOfEnvelopes.{came_in}
use Rattle.tp_inbox.proofs.NewInboxContents.{routes_here}
use Rattle.tp_behaviour.specs.declared.worker.Worker.{Worker}
use Rattle.tp_behaviour.specs.Outboxes.{routes_of}
use Rattle.tp_behaviour.specs.Workers.{IsSentBy}
use Rattle.tp_exec.specs.Rounds.{AreWorkers, Link, all_links, comes_from, comp_at}
use Rattle.tp_exec.proofs.PairwiseDifferentElements.{flat_from, passed}
use Rattle.tp_exec.proofs.RoutesBySourceComponent.{by_among}
use Rattle.tp_exec.proofs.DistinctRunLinks.{link_of}

-- the route comes from this component, and is one into the component to which it leads
abbrev pub IsOut : Setup → CompId → RouteId → Type 0
IsOut s c r = (r.source ≡ c) × Contains (routes_into s r.to.comp) r

-- the routes of a component's senders are routes from it
pub links_out : (s : Setup) (workers : List Worker) → AreWorkers s workers → (k : ℕ) (x : Worker) → slice_get workers k ≡ Some x → (r : RouteId)
    → Contains (routes_of x.outbox) r → IsOut s (comp_at k) r
links_out s workers are k x at r h =
    let y = flat_from (λ (z : SenderLedger). z.routes) x.outbox r h in
    let kept : Contains (filter (comes_from k) (all_links workers)) (end_of y.0) =
    subst (λ l. Contains l (end_of y.0)) (are.senders k x at) (map_contains end_of x.outbox y.0 y.1) in
    let p = passed (comes_from k) (all_links workers) (end_of y.0) kept in
    let w = link_of workers (end_of y.0) p.0 in
    let from : w.source ≡ comp_at k = ap (λ (v : Link). v.1) w.is ∙ ap comp_at (eqb-true y.0.source.0 k p.1) in
    let among = by_among w.source w.worker.owner.inbox.routes r (subst (λ (v : Link). Contains v.2 r) (sym w.is) y.2) in
    let into : Contains (routes_into s (comp_at w.place)) r = subst (λ rs. Contains rs r) (are.routes w.place w.worker w.stands) among.0 in
    let to : r.to.comp ≡ comp_at w.place =
    All-contains (λ (q : RouteId). q.to.comp ≡ comp_at w.place) (routes_into s (comp_at w.place)) r (routes_here s (comp_at w.place)) into in
    (among.1 ∙ from, subst (λ (c : CompId). Contains (routes_into s c) r) (sym to) into)

-- where no route that is sent on leads to the component, nothing is sent to it
module _ (d : CompId) (out : List RouteId) (none : (r : RouteId) → Contains out r → r.to.comp ≢ d) where
  not_sent : (e : Entry) → IsSentBy out e → sending_to d e ≡ None
  not_sent (entry.Sent r n m) h = by (cases_Bool (d.0 == r.to.comp.0)) where
    x : Posted
    x = record { route = r; number = n; stamped = m }

    by : ((d.0 == r.to.comp.0) ≡ true) ⊎ ((d.0 == r.to.comp.0) ≡ false) → cond (d.0 == r.to.comp.0) (Some x) None ≡ None
    by (inl e) = absurd (none r h (λ i. record { 0 = sym (eqb-true d.0 r.to.comp.0 e) i }))
    by (inr e) = ap (λ b. cond b (Some x) None) e
  not_sent (entry.Arrive p stamp e) h = refl
  not_sent (entry.Took p b e) h = refl
  not_sent (entry.Found p b e) h = refl
  not_sent (entry.Dropped p b e) h = refl
  not_sent (entry.Cleared p) h = refl
  not_sent (entry.Started p) h = refl
  not_sent (entry.Stopped p) h = refl
  not_sent (entry.Halted p) h = refl
  not_sent entry.Else h = refl
  not_sent (entry.Verdict v) h = refl
  not_sent (entry.Failed fault) h = refl

  pub none_sent : (k : List Entry) → All (IsSentBy out) k → sent_to d k ≡ []
  unfolding sent_to
  none_sent [] h = refl
  none_sent (e ∷ k) h =
      ap (λ o. cons_option o (filter_map (sending_to d) k)) (not_sent e (All-head (IsSentBy out) e k h)) ∙ none_sent k (All-tail (IsSentBy out) e k h)

-- and where none of these routes comes from a component, nothing comes from it
module _ (d c : CompId) (routes : List RouteId) (none : (r : RouteId) → Contains routes r → r.source ≢ c) where
  not_come : (e : Entry) → IsArrivalOn routes e → arrival_from d c e ≡ None
  not_come (entry.Arrive p stamp env) h = by (cases_Bool (c.0 == env.sender)) where
    x : Posted
    x = record {
      route = record { source = c; to = record { comp = d; port = p } };
      number = env.number;
      stamped = record { stamp = stamp; message = env.msg };
    }

    by : ((c.0 == env.sender) ≡ true) ⊎ ((c.0 == env.sender) ≡ false) → cond (c.0 == env.sender) (Some x) None ≡ None
    by (inl e) = absurd (none h.0 h.1 (λ i. record { 0 = (h.3 ∙ sym (eqb-true c.0 env.sender e)) i }))
    by (inr e) = ap (λ b. cond b (Some x) None) e
  not_come (entry.Took p b e) h = absurd h
  not_come (entry.Found p b e) h = absurd h
  not_come (entry.Dropped p b e) h = absurd h
  not_come (entry.Cleared p) h = absurd h
  not_come (entry.Started p) h = absurd h
  not_come (entry.Stopped p) h = absurd h
  not_come (entry.Halted p) h = absurd h
  not_come (entry.Sent r n m) h = absurd h
  not_come entry.Else h = absurd h
  not_come (entry.Verdict v) h = absurd h
  not_come (entry.Failed fault) h = absurd h

  none_arrived : (es : List Entry) → All (IsArrivalOn routes) es → arrived_from d c es ≡ []
  unfolding arrived_from
  none_arrived [] h = refl
  none_arrived (e ∷ es) h =
      ap (λ o. cons_option o (filter_map (arrival_from d c) es)) (not_come e (All-head (IsArrivalOn routes) e es h))
      ∙ none_arrived es (All-tail (IsArrivalOn routes) e es h)

  pub none_came : (k : List Entry) → All (IsArrivalOn routes) (arrivals k) → arrived_from d c k ≡ []
  none_came k h = came_in d c k ∙ none_arrived (arrivals k) h
