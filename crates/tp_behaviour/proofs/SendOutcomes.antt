-- What a send comes to: to one component, and to all.
use Rattle.std.proofs.Common.{◌≡◌, ◌∙◌, ◌⊎◌, inl, inr, ℕ, ◌+◌, ◌<◌, None, Option, List, [], ◌∷◌, ◌++◌, ap, arith, eq-eqb, false, get_or, length, map, refl, subst, sym, take, true, true≢false}
use Rattle.std.specs.Prelude.{◌==◌}
use Rattle.std.specs.List.{AllZip, flat_map}
use Rattle.std.proofs.lemmas.Bool.{eqb-true}
use Rattle.std.proofs.lemmas.List.{append_assoc, take_more}
use Rattle.std.proofs.lemmas.Slice.Zip.{all_zipped_more}
use Rattle.tp_queue.specs.History.{status_of}
use Rattle.tp_value.specs.declared.message.Message.{Message}
use Rattle.tp_config.specs.declared.port_type.CompId.{CompId}
use Rattle.tp_config.specs.declared.port_type.RouteId.{RouteId}
use Rattle.tp_config.specs.declared.routes.RouteFault.{RouteFault}
use Rattle.tp_config.specs.declared.routes.RouteFault.TheVariants as route_fault
use Rattle.tp_config.specs.Routes.{IsRoute, RouteCause, routes_from}
use Rattle.tp_play.specs.declared.body.Receiver.{Receiver}
use Rattle.tp_play.specs.declared.body.Receiver.TheVariants as to
use Rattle.tp_play.specs.declared.body.SendOperation.{SendOperation}
use Rattle.tp_play.specs.declared.body.Sent.{Sent}
use Rattle.tp_inbox.specs.declared.entry.Entry.{Entry}
use Rattle.tp_inbox.specs.declared.entry.Entry.TheVariants as entry
use Rattle.tp_inbox.specs.declared.send_fault.SendFault.TheVariants as send_fault
use Rattle.tp_inbox.specs.History.{history_of, next_of, sent_on}
use Rattle.tp_inbox.specs.Desks.{Journal}
use Rattle.tp_inbox.specs.Ledgers.{Inbox, SenderLedger, end_of}
use Rattle.tp_inbox.proofs.PortQueuesMatchLog.{history-same}
use Rattle.tp_behaviour.specs.declared.worker.Worker.{Worker}
use Rattle.tp_behaviour.specs.BehaviourEnds.{IsFailure}
use Rattle.tp_behaviour.specs.Held.{IsNamed, IsSentAs, NamesUnset, Actor, SendsUnset, Values}
use Rattle.tp_behaviour.specs.Looks.{moment}
use Rattle.tp_behaviour.specs.Moments.{Moment, moments}
use Rattle.tp_behaviour.specs.Outboxes.{routes_of}
use Rattle.tp_behaviour.specs.Paths.{IsSentOn, IsStarted, IsStep, own_port}
use Rattle.tp_behaviour.specs.LookOutcomes.{TraceGrew}
use Rattle.tp_behaviour.specs.Sends.{Sends}
use Rattle.tp_behaviour.specs.Workers.{KeepsInboxes}

-- what is sent is set
is_set : (vs : Values) (s : Sent) (m : Message) → IsSentAs vs s m → SendsUnset vs s → ⊥
is_set vs _ _ (IsSentAs.written m) unset = absurd unset
is_set vs _ m (IsSentAs.variable k _ holds) unset = let no_ = sym holds ∙ unset in absurd (cc)

is_named : (r : Actor) (vs : Values) (to : Receiver) (c : Option CompId) → IsNamed r vs to c → NamesUnset vs to → ⊥
is_named r vs _ _ IsNamed.nobody unset = absurd unset
is_named r vs _ _ (IsNamed.reference k c at) unset = absurd unset
is_named r vs _ _ (IsNamed.variable k c holds) unset = let no_ = sym holds ∙ unset in absurd (cc)

-- a message that went out
pub sends_one : (r : Actor) (vs : Values) (x : SendOperation) (m : Message) (named : Option CompId) (q : RouteId) (d : Journal) (n : List Entry)
    → IsStarted d.log x.port → IsSentAs vs x.sent m
    → IsNamed r vs x.to named → IsRoute r.config (own_port r x.port) named q → moments n ≡ moments d.log
    ++ moment d (entry.Sent q (length (sent_on q d.log)) (next_of d.log m)) ∷ [] → Sends r vs x None d.log n
sends_one r vs x m named q d n started sent to route more = (
  moment d (entry.Sent q (length (sent_on q d.log)) (next_of d.log m)) ∷ [],
  more,
  IsStep.send vs.turns vs.variables x m named q
      (moment d (entry.Sent q (length (sent_on q d.log)) (next_of d.log m))) sent to route (started, (next_of d.log m, refl, refl)),
)

-- and one that has no way
pub cause_route : (r : Actor) (vs : Values) (x : SendOperation) (m : Message) (named : Option CompId) (f : RouteFault) (k : List Entry)
    → IsStarted k x.port → IsSentAs vs x.sent m
    → IsNamed r vs x.to named → RouteCause r.config (own_port r x.port) named f → IsFailure r vs x k (send_fault.Unrouted f)
cause_route r vs x m named f k started sent to cause = IsFailure.no_single_route named f started set to cause
  where
    set : SendsUnset vs x.sent ⊎ NamesUnset vs x.to → ⊥
    set (inl h) = is_set vs x.sent m sent h
    set (inr h) = is_named r vs x.to named to h

-- who is named for all is set
all_named : (vs : Values) (t : Receiver) → t ≡ to.All → NamesUnset vs t → ⊥
all_named vs to.Nobody all unset = unset
all_named vs (to.Reference k) all unset = unset
all_named vs (to.Variable k) all unset = absurd (cc)
all_named vs to.All all unset = unset

-- a list is empty where its length is tested to be 0, and only there
pub no_items : {X : Type 0} (xs : List X) (n : ℕ) → length xs ≡ n → (n == 0) ≡ true → xs ≡ []
no_items [] n is e = refl
no_items (x ∷ xs) n is e = let none : n ≡ 0 = eqb-true n 0 e in absurd (omega (arith, none, is))

pub some_items : {X : Type 0} (xs : List X) (n : ℕ) → length xs ≡ n → (n == 0) ≡ false → xs ≡ [] → ⊥
some_items xs n is e none = let zero : n ≡ 0 = sym is ∙ ap length none in true≢false (sym (eq-eqb n 0 zero) ∙ e)

-- one to all that has no way at all
pub cause_none : (r : Actor) (vs : Values) (x : SendOperation) (m : Message) (routes : List RouteId) (k : List Entry) → IsStarted k x.port
    → IsSentAs vs x.sent m → x.to ≡ to.All
    → routes ≡ routes_from r.config (own_port r x.port) → routes ≡ [] → IsFailure r vs x k (send_fault.Unrouted route_fault.NoRoute)
cause_none r vs x m routes k started sent all are none = IsFailure.no_route_at_all started set all (sym are ∙ none)
  where
    set : SendsUnset vs x.sent ⊎ NamesUnset vs x.to → ⊥
    set (inl h) = is_set vs x.sent m sent h
    set (inr h) = all_named vs x.to all h

-- the routes stay the same
abbrev SenderEnd : Type 0
SenderEnd = Inbox × CompId × List RouteId

routes_of_ends : (ss : List SenderLedger) → flat_map (λ (e : SenderEnd). e.2) (map end_of ss) ≡ routes_of ss
routes_of_ends [] = refl
routes_of_ends (s ∷ ss) = ap (λ l. s.routes ++ l) (routes_of_ends ss)

pub routes_stay : (a b : Worker) → KeepsInboxes a b → routes_of b.outbox ≡ routes_of a.outbox
routes_stay a b same = sym (routes_of_ends b.outbox) ∙ ap (flat_map (λ (e : SenderEnd). e.2)) same.ends ∙ routes_of_ends a.outbox

-- a message went out on each of these routes, and the port is still started
pub record IsSentOnEach (port : ℕ) (m : Message) (routes : List RouteId) (before after : List Entry) : Type 0 where
  pub started : IsStarted after port
  pub grew : TraceGrew (AllZip (IsSentOn port m) routes) before after

-- and on one more
pub sent_on_more : (port : ℕ) (m : Message) (routes : List RouteId) (i : ℕ) (d q : RouteId) (k l n : List Entry) → IsSentOnEach port m (take i routes) k l
    → i < length routes → q ≡ get_or routes i d
    → n ≡ l ++ entry.Sent q (length (sent_on q l)) (next_of l m) ∷ [] → moments n ≡ moments l
    ++ record { before = l; entry = entry.Sent q (length (sent_on q l)) (next_of l m) } ∷ []
    → IsSentOnEach port m (take (i + 1) routes) k n
sent_on_more port m routes i d q k l n so_far below is log more =
    let e = entry.Sent q (length (sent_on q l)) (next_of l m) in
    let t : Moment = record { before = l; entry = e } in
    let ts = so_far.grew.0 in
    record {
      started = ap status_of (ap (history_of port) log ∙ history-same port l e refl) ∙ so_far.started;
      grew = (
        ts ++ t ∷ [],
        more ∙ ap (λ xs. xs ++ t ∷ []) so_far.grew.1 ∙ append_assoc (moments k) ts (t ∷ []),
        subst (λ xs. AllZip (IsSentOn port m) xs (ts ++ t ∷ [])) (ap (λ z. take i routes ++ z ∷ []) is ∙ sym (take_more routes i d below))
            (all_zipped_more (IsSentOn port m) (take i routes) ts q t so_far.grew.2 (so_far.started, (next_of l m, refl, refl))),
      );
    }

some_moment : (port : ℕ) (m : Message) (routes : List RouteId) (ts : List Moment) → AllZip (IsSentOn port m) routes ts → (routes ≡ [] → ⊥) → ts ≡ [] → ⊥
some_moment port m [] ts zip some none = some refl
some_moment port m (q ∷ qs) [] zip some none = absurd zip
some_moment port m (q ∷ qs) (t ∷ ts) zip some none = absurd (cc)

-- a message that went out on each route of the port
pub sends_all : (r : Actor) (vs : Values) (x : SendOperation) (m : Message) (routes : List RouteId) (k n : List Entry) → IsSentAs vs x.sent m → x.to ≡ to.All
    → routes ≡ routes_from r.config (own_port r x.port) → (routes ≡ [] → ⊥) → TraceGrew (AllZip (IsSentOn x.port m) routes) k n → Sends r vs x None k n
sends_all r vs x m routes k n sent all are some (ts, grown, zip) = (
  ts,
  grown,
  IsStep.send_to_all vs.turns vs.variables x m ts sent all (some_moment x.port m routes ts zip some)
      (subst (λ l. AllZip (IsSentOn x.port m) l ts) are zip),
)
