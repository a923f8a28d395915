-- What a run comes to, from what the threads left and what was settled.
use Rattle.std.proofs.Common.{◌≡◌, ℕ, Bool, true, false, cond, Option, Some, None, List, [], ◌∷◌, ◌++◌, refl, sym, ap, ◌∙◌, subst}
use Rattle.std.specs.Prelude.{All, Contains, slice_get}
use Rattle.std.specs.Option.{option_map}
use Rattle.std.proofs.lemmas.Bool.{false≢true}
use Rattle.std.proofs.lemmas.List.Elements.{All-append, All-cons, All-head, All-nil, All-tail, All-weaker}
use Rattle.std.proofs.lemmas.Option.{slice_get-map}
use Rattle.tp_config.specs.declared.port_type.CompId.{CompId}
use Rattle.tp_config.specs.declared.port_type.RouteId.{RouteId}
use Rattle.tp_config.specs.Setup.{Setup}
use Rattle.tp_play.specs.declared.body.Body.{Body}
use Rattle.tp_play.specs.Behaviours.{Behaviour}
use Rattle.tp_play.specs.TestCases.{Made, behaviour_at}
use Rattle.tp_inbox.specs.declared.entry.Entry.{Entry}
use Rattle.tp_inbox.specs.declared.entry.Entry.TheVariants as entry
use Rattle.tp_inbox.specs.History.{is_arrival}
use Rattle.tp_behaviour.specs.declared.outcome.Outcome.{Outcome}
use Rattle.tp_behaviour.specs.declared.worker.Worker.{Worker}
use Rattle.tp_behaviour.specs.Fresh.{HasOwn, LooksAtPorts}
use Rattle.tp_behaviour.specs.Held.{Actor, unset}
use Rattle.tp_behaviour.specs.Moments.{Moment, moments, moments_after, own}
use Rattle.tp_behaviour.specs.Outboxes.{routes_of}
use Rattle.tp_behaviour.specs.Outcomes.{Ends, HasEnded, WaitsWithin}
use Rattle.tp_behaviour.specs.Workers.{IsSentBy}
use Rattle.tp_exec.specs.declared.ended.EndedComponent.{EndedComponent}
use Rattle.tp_exec.specs.declared.played.Played.{Played}
use Rattle.tp_exec.specs.Rounds.{ArePlayed, AreWorkers, BehaviourEnded, comp_at, workers_of}
use Rattle.tp_exec.specs.Settlings.{AreSettled, IsEndedComponentOf, IsOfARun, IsSentOut}
use Rattle.tp_exec.proofs.NoMessagesWithoutRoutes.{IsOut, links_out}
use Rattle.tp_exec.proofs.SettledRunOutcomes.{same_moments}

-- histories with one trace differ by arrivals
module _ (P : Entry → Type 0) where
  abbrev OfMoment : Moment → Type 0
  OfMoment t = P t.entry

  one : (past : List Entry) (e : Entry) → P e → (b : Bool) → All OfMoment (cond b [] (record { before = past; entry = e } ∷ []))
  one past e h true = All-nil OfMoment
  one past e h false = All-cons OfMoment (record { before = past; entry = e }) [] h (All-nil OfMoment)

  of_trace : (past k : List Entry) → All P k → All OfMoment (moments_after past k)
  of_trace past [] h = All-nil OfMoment
  of_trace past (e ∷ k) h =
      All-append OfMoment (own past e) (moments_after (past ++ e ∷ []) k) (one past e (All-head P e k h) (is_arrival e))
      (of_trace (past ++ e ∷ []) k (All-tail P e k h))

  parts : ((e : Entry) → is_arrival e ≡ true → P e) → (past : List Entry) (e : Entry) (ms : List Moment) (b : Bool) → is_arrival e ≡ b
      → All OfMoment (cond b [] (record { before = past; entry = e } ∷ []) ++ ms) → P e × All OfMoment ms
  parts quiet past e ms true is h = (quiet e is, h)
  parts quiet past e ms false is h =
      let m : Moment = record { before = past; entry = e } in (All-head OfMoment m ms h, All-tail OfMoment m ms h)

  of_history : ((e : Entry) → is_arrival e ≡ true → P e) → (past k : List Entry) → All OfMoment (moments_after past k) → All P k
  of_history quiet past [] h = All-nil P
  of_history quiet past (e ∷ k) h =
      let w = parts quiet past e (moments_after (past ++ e ∷ []) k) (is_arrival e) refl h in
      All-cons P e k w.0 (of_history quiet (past ++ e ∷ []) k w.1)

  pub same_trace : ((e : Entry) → is_arrival e ≡ true → P e) → (k l : List Entry) → moments l ≡ moments k → All P k → All P l
  unfolding moments
  same_trace quiet k l same h = of_history quiet [] l (subst (All OfMoment) (sym same) (of_trace [] k h))

-- what was sent out
module _ (out : List RouteId) where
  quiet : (e : Entry) → is_arrival e ≡ true → IsSentBy out e
  quiet (entry.Arrive p s e) is = tt
  quiet (entry.Took p b e) is = tt
  quiet (entry.Found p b e) is = tt
  quiet (entry.Dropped p b e) is = tt
  quiet (entry.Cleared p) is = tt
  quiet (entry.Started p) is = tt
  quiet (entry.Stopped p) is = tt
  quiet (entry.Halted p) is = tt
  quiet (entry.Sent r n m) is = absurd (false≢true is)
  quiet entry.Else is = tt
  quiet (entry.Verdict v) is = tt
  quiet (entry.Failed c) is = tt

  gone_out : (s : Setup) (c : CompId) → ((r : RouteId) → Contains out r → IsOut s c r) → (e : Entry) → IsSentBy out e → IsSentOut s c e
  gone_out s c links (entry.Sent r n m) h = links r h
  gone_out s c links (entry.Arrive p stamp e) h = tt
  gone_out s c links (entry.Took p b e) h = tt
  gone_out s c links (entry.Found p b e) h = tt
  gone_out s c links (entry.Dropped p b e) h = tt
  gone_out s c links (entry.Cleared p) h = tt
  gone_out s c links (entry.Started p) h = tt
  gone_out s c links (entry.Stopped p) h = tt
  gone_out s c links (entry.Halted p) h = tt
  gone_out s c links entry.Else h = tt
  gone_out s c links (entry.Verdict v) h = tt
  gone_out s c links (entry.Failed fault) h = tt

-- a behaviour that has ended has done so in each history with its trace
ended_so : (r : Actor) (body : Body) (o : Outcome) (k l : List Entry) → moments l ≡ moments k → HasEnded r body o k → HasEnded r body o l
ended_so r body o k l same h = (h.0, subst (λ ts. Ends r o [] (unset body) body.statements ts h.0) (sym same) h.1)

behaviour_ended : (s : Setup) (c : CompId) (d : Option Behaviour) (o : Outcome) (k l : List Entry) → moments l ≡ moments k → BehaviourEnded s c d o k
    → BehaviourEnded s c d o l
behaviour_ended s c (Some d) o k l same h = ended_so (record { config = s; comp = c; references = d.references }) d.body o k l same h
behaviour_ended s c None o k l same h =
    ended_so (record { config = s; comp = c; references = [] }) (record { variables = []; statements = [] }) o k l same h

-- **what the components of a run have come to once all messages have come**
pub of_a_run : (made : Made) (played : List Played) (ended : List EndedComponent) → AreWorkers made.config (workers_of played) → ArePlayed made played
    → AreSettled made.config played ended
    → IsOfARun made ended
of_a_run made played ended are done settled = record { each = component; come = settled.come }
  where
    component : (k : ℕ) (e : EndedComponent) → slice_get ended k ≡ Some e → IsEndedComponentOf made k e
    component k e at =
        let c : CompId = comp_at k in
        let w = settled.each k e at in
        let p : Played = w.0 in
        let x : Worker = p.worker in
        let here : slice_get (workers_of played) k ≡ Some x = slice_get-map (λ (q : Played). q.worker) played k
        ∙ ap (option_map (λ (q : Played). q.worker)) w.1 in
        let consistent = are.worker_of k x here [] in
        let own = done k p w.1 in
        let trace = same_moments p e w.2 in
        record {
          comp = w.2.comp ∙ consistent.desk.0 ∙ consistent.ends.comp;
          ports = w.2.ports ∙ consistent.desk.1 ∙ consistent.ends.ports;
          ended = subst (λ (o : Outcome). BehaviourEnded made.config c (behaviour_at made k) o e.desk.log) (sym w.2.outcome)
              (behaviour_ended made.config c (behaviour_at made k) p.outcome x.desk.log e.desk.log trace own.ended);
          within = subst (λ (o : Outcome). WaitsWithin e.desk.ports o) (sym w.2.outcome) (subst (λ n. WaitsWithin n p.outcome) (sym w.2.ports) own.within);
          fresh = subst (λ (ts : List Moment). All (λ (t : Moment). LooksAtPorts t.entry → HasOwn c t.before) ts) (sym trace) consistent.fresh;
          sent = All-weaker (IsSentBy (routes_of x.outbox)) (IsSentOut made.config c)
              (gone_out (routes_of x.outbox) made.config c (links_out made.config (workers_of played) are k x here)) e.desk.log
              (same_trace (IsSentBy (routes_of x.outbox)) (quiet (routes_of x.outbox)) x.desk.log e.desk.log trace consistent.sent);
          sound = w.2.sound;
        }
