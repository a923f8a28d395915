-- What stays true of a worker as its behaviour acts.
use Rattle.std.proofs.Common.{◌≡◌, ℕ, Bool, false, cond, Some, None, List, [], ◌∷◌, ◌++◌, refl, sym, ap, ◌∙◌, subst}
use Rattle.std.specs.Prelude.{All, filter}
use Rattle.std.specs.List.{cons_option}
use Rattle.std.proofs.lemmas.List.Elements.{All-push, filter-append}
use Rattle.std.proofs.lemmas.List.{append-nil}
use Rattle.tp_common.specs.declared.event.Env.{Env}
use Rattle.tp_value.specs.declared.message.Message.{Message}
use Rattle.tp_config.specs.declared.port_type.CompId.{CompId}
use Rattle.tp_config.specs.declared.port_type.RouteId.{RouteId}
use Rattle.tp_common.specs.declared.operation.ReceiveKind.{ReceiveKind}
use Rattle.tp_common.specs.declared.operation.ReceiveKind.TheVariants as kind
use Rattle.tp_inbox.specs.declared.entry.Entry.{Entry}
use Rattle.tp_inbox.specs.declared.entry.Entry.TheVariants as entry
use Rattle.tp_inbox.specs.History.{IsTimely, is_arrival, arrivals, last_chosen, posted_on, sending_to, sent_on, sent_to}
use Rattle.tp_inbox.specs.Desks.{Journal, adding}
use Rattle.tp_inbox.specs.Ledgers.{IsDeskOf}
use Rattle.tp_inbox.proofs.ComponentMessagesByRoute.{sent_by_routes}
use Rattle.tp_behaviour.specs.declared.choice.Guard.{Guard}
use Rattle.tp_behaviour.specs.declared.choice.LookResult.{LookResult}
use Rattle.tp_behaviour.specs.declared.choice.LookResult.TheVariants as look
use Rattle.tp_behaviour.specs.declared.worker.Worker.{Worker}
use Rattle.tp_behaviour.specs.Choices.{IsChoice, IsDrop, NoneOpen, chosen}
use Rattle.tp_behaviour.specs.Fresh.{Fresh, HasOwn, LooksAtPorts}
use Rattle.tp_behaviour.specs.Held.{Actor}
use Rattle.tp_behaviour.specs.Looks.{Looked, moment}
use Rattle.tp_behaviour.specs.Moments.{Moment, moments}
use Rattle.tp_behaviour.specs.Outboxes.{routes_of}
use Rattle.tp_behaviour.specs.LookOutcomes.{Saw}
use Rattle.tp_behaviour.specs.Workers.{IsConsistent, IsLedgerOf, IsPlain, IsSentBy}
use Rattle.tp_behaviour.proofs.LastChosenEntry.{choice_takes, last_is}
use Rattle.tp_behaviour.proofs.RouteHistoryGrowth.{sent_to_more}
use Rattle.tp_behaviour.proofs.WorkerInvariantOnArrivals.{all_as}
use Rattle.tp_behaviour.proofs.TraceGrowth.{moments-own}

-- neither does it arrive, nor is it sent
pub record Quiet (e : Entry) : Type 0 where
  pub here : is_arrival e ≡ false
  pub unsent : (c : CompId) → sending_to c e ≡ None
  pub by_none : (out : List RouteId) → IsSentBy out e

pub quiet : (e : Entry) → IsPlain e → Quiet e
quiet (entry.Arrive p stamp env) h = absurd h
quiet (entry.Took p i env) h = record { here = refl; unsent = λ c. refl; by_none = λ out. tt }
quiet (entry.Found p i env) h = record { here = refl; unsent = λ c. refl; by_none = λ out. tt }
quiet (entry.Dropped p i env) h = record { here = refl; unsent = λ c. refl; by_none = λ out. tt }
quiet (entry.Cleared p) h = record { here = refl; unsent = λ c. refl; by_none = λ out. tt }
quiet (entry.Started p) h = record { here = refl; unsent = λ c. refl; by_none = λ out. tt }
quiet (entry.Stopped p) h = record { here = refl; unsent = λ c. refl; by_none = λ out. tt }
quiet (entry.Halted p) h = record { here = refl; unsent = λ c. refl; by_none = λ out. tt }
quiet (entry.Sent r n m) h = absurd h
quiet entry.Else h = record { here = refl; unsent = λ c. refl; by_none = λ out. tt }
quiet (entry.Verdict v) h = record { here = refl; unsent = λ c. refl; by_none = λ out. tt }
quiet (entry.Failed c) h = record { here = refl; unsent = λ c. refl; by_none = λ out. tt }

-- it has no stamp that could come too late
pub plain_timely : (k : List Entry) (e : Entry) → IsPlain e → IsTimely k e
plain_timely k (entry.Arrive p stamp env) h = absurd h
plain_timely k (entry.Took p i env) h = tt
plain_timely k (entry.Found p i env) h = tt
plain_timely k (entry.Dropped p i env) h = tt
plain_timely k (entry.Cleared p) h = tt
plain_timely k (entry.Started p) h = tt
plain_timely k (entry.Stopped p) h = tt
plain_timely k (entry.Halted p) h = tt
plain_timely k (entry.Sent r n m) h = absurd h
plain_timely k entry.Else h = tt
plain_timely k (entry.Verdict v) h = tt
plain_timely k (entry.Failed c) h = tt

-- nothing more has arrived
pub arrivals_same : (k : List Entry) (e : Entry) → is_arrival e ≡ false → arrivals (k ++ e ∷ []) ≡ arrivals k
unfolding arrivals
arrivals_same k e is = filter-append is_arrival k (e ∷ []) ∙ ap (λ b. filter is_arrival k ++ cond b (e ∷ []) []) is ∙ append-nil (filter is_arrival k)

sent_alone : (c : CompId) (e : Entry) → sending_to c e ≡ None → sent_to c (e ∷ []) ≡ []
unfolding sent_to
sent_alone c e none = ap (λ o. cons_option o []) none

-- nothing more was sent
sent_same : (c : CompId) (k : List Entry) (e : Entry) → sending_to c e ≡ None → sent_to c (k ++ e ∷ []) ≡ sent_to c k
sent_same c k e none = sent_to_more c k (e ∷ []) ∙ ap (λ l. sent_to c k ++ l) (sent_alone c e none) ∙ append-nil (sent_to c k)

-- nor on a route
pub sent_on_same : (q : RouteId) (k : List Entry) (e : Entry) → sending_to q.to.comp e ≡ None → sent_on q (k ++ e ∷ []) ≡ sent_on q k
sent_on_same q k e none =
    sym (sent_by_routes q.to.comp q refl (k ++ e ∷ [])) ∙ ap (posted_on q) (sent_same q.to.comp k e none) ∙ sent_by_routes q.to.comp q refl k

-- the trace, with one moment more, of which this holds as it does of those before
pub fresh_more : (r : Actor) (k : List Entry) (e : Entry) → is_arrival e ≡ false → Fresh r.comp k → (LooksAtPorts e → HasOwn r.comp k)
    → Fresh r.comp (k ++ e ∷ [])
fresh_more r k e is fresh own =
    subst (All (λ (t : Moment). LooksAtPorts t.entry → HasOwn r.comp t.before)) (sym (moments-own k e is))
    (All-push (λ (t : Moment). LooksAtPorts t.entry → HasOwn r.comp t.before) (moments k) (record { before = k; entry = e }) fresh own)

-- the worker, once this was done
pub noted : (r : Actor) (s : Worker) (d : Journal) (e : Entry) → IsConsistent r s → d ≡ adding s.desk e → IsPlain e → (LooksAtPorts e → HasOwn r.comp s.desk.log)
    → (moments d.log ≡ moments s.desk.log ++ moment s.desk e ∷ []) × IsConsistent r (record { owner = s.owner; desk = d; outbox = s.outbox })
noted r s d e m grown plain own = (
  ap moments log ∙ moments-own s.desk.log e q.here,
  record {
    ends = m.ends;
    desk = subst (IsDeskOf s.owner.inbox) (sym grown) m.desk;
    arrived = ap arrivals log ∙ arrivals_same s.desk.log e q.here ∙ m.arrived;
    noted = all_as (IsLedgerOf s.desk.log) (IsLedgerOf d.log) s.outbox
        (λ x h. ap (sent_to x.inbox.comp) log ∙ sent_same x.inbox.comp s.desk.log e (q.unsent x.inbox.comp) ∙ h) m.noted;
    theirs = m.theirs;
    sent = subst (All (IsSentBy (routes_of s.outbox))) (sym log)
        (All-push (IsSentBy (routes_of s.outbox)) s.desk.log e m.sent (q.by_none (routes_of s.outbox)));
    fresh = subst (Fresh r.comp) (sym log) (fresh_more r s.desk.log e q.here m.fresh own);
  },
)
  where
    q : Quiet e
    q = quiet e plain

    log : d.log ≡ s.desk.log ++ e ∷ []
    log = ap (λ (j : Journal). j.log) grown

plain_chosen : (k : ReceiveKind) (port : ℕ) (e : Env Message) (i : ℕ) → IsPlain (chosen k port e i)
plain_chosen kind.Receive port e i = tt
plain_chosen kind.Trigger port e i = tt
plain_chosen kind.Check port e i = tt

-- neither does a choice or a drop arrive, nor is it sent
plain_choice : (gs : List Guard) (has_else : Bool) (t : Moment) (i : ℕ) (e : Env Message) → IsChoice gs has_else t (Some (i, e)) → IsPlain t.entry
plain_choice gs has_else _ i e (IsChoice.branch k _ g _ at finds none) = plain_chosen g.kind g.port e i

plain_drop : (gs : List Guard) (t : Moment) → IsDrop gs t → IsPlain t.entry
plain_drop gs _ (IsDrop.dropped k i g e at kd top not none) = tt

-- the worker, once its branches were looked at
pub looked_at : (r : Actor) (s : Worker) (gs : List Guard) (x : LookResult) (d : Journal) → IsConsistent r s → HasOwn r.comp s.desk.log → Looked gs s.desk x d
    → Saw r.comp gs x s.desk.log d.log × IsConsistent r (record { owner = s.owner; desk = d; outbox = s.outbox })
looked_at r s gs (look.Taken i) d m own (e, t, choice, grown) =
    let h = noted r s d t m grown (plain_choice gs false (moment s.desk t) i e (choice false)) (λ _. own) in
    let last : last_chosen d.log ≡ Some e =
    ap (λ (j : Journal). last_chosen j.log) grown ∙ last_is s.desk.log t ∙ choice_takes gs false (moment s.desk t) i e (choice false) in
    ((e, last, (moment s.desk t ∷ [], h.0, (moment s.desk t, refl, choice))), h.1)
looked_at r s gs look.Discarded d m own (t, drop, grown) =
    let h = noted r s d t m grown (plain_drop gs (moment s.desk t) drop) (λ _. own) in
    ((moment s.desk t ∷ [], h.0, (moment s.desk t, refl, drop)), h.1)
looked_at r s gs look.Nothing d m own (none, same) =
    let log : d.log ≡ s.desk.log = ap (λ (j : Journal). j.log) same in (
      (ap moments log, subst (λ k. NoneOpen k gs) (sym log) none, subst (HasOwn r.comp) (sym log) own),
      subst (λ j. IsConsistent r (record { owner = s.owner; desk = j; outbox = s.outbox })) (sym same) m,
    )
