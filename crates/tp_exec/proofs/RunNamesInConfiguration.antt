-- What the entries of a run's histories name is of the configuration.
use Rattle.std.proofs.Common.{◌≡◌, ℕ, ◌==◌, ◌<◌, Bool, true, false, cond, nat_lt, Option, Some, None, List, [], ◌∷◌, length, get_or, refl, sym, ap, subst, eq-eqb, take}
use Rattle.std.specs.Prelude.{All, Contains, IsSome, slice_get}
use Rattle.std.specs.List.{cons_option, filter_map}
use Rattle.std.proofs.lemmas.List.Elements.{All-cons, All-head, All-nil, All-tail, All-take}
use Rattle.std.proofs.lemmas.Option.{get_or_from_slice_get, none-some, slice_get-get_or, slice_get_within}
use Rattle.tp_common.specs.declared.event.Env.{Env}
use Rattle.tp_common.specs.declared.event.Event.{Event}
use Rattle.tp_common.specs.declared.event.Event.TheVariants as event
use Rattle.tp_queue.specs.History.{Lawful, MayFollow, accepted, arrival, gone, limit, top}
use Rattle.tp_value.specs.declared.message.Message.{Message}
use Rattle.tp_config.specs.declared.port_type.CompId.{CompId}
use Rattle.tp_config.specs.declared.port_type.PortRef.{PortRef}
use Rattle.tp_config.specs.declared.port_type.RouteId.{RouteId}
use Rattle.tp_config.specs.Allowed.{IsSetup}
use Rattle.tp_config.specs.Setup.{Setup, PortDecl, IsComponent, IsPort, decl_at, ports_at}
use Rattle.tp_config.specs.Routes.{beside, route_to, routes_from, routes_into}
use Rattle.tp_config.proofs.PortPartnerLaws.{beside_back}
use Rattle.tp_config.proofs.RouteLaws.{beside_ports, both_ways, map_cases}
use Rattle.tp_config.proofs.RouteDestinations.{port_component, route_leads}
use Rattle.tp_inbox.specs.declared.entry.Entry.{Entry}
use Rattle.tp_inbox.specs.declared.entry.Entry.TheVariants as entry
use Rattle.tp_inbox.specs.Desks.{IsWithin, Journal}
use Rattle.tp_inbox.specs.History.{event_at, history_of}
use Rattle.tp_report.specs.Lines.{component_port, sender_of}
use Rattle.tp_report.specs.Reports.{IsKnown}
use Rattle.tp_exec.specs.Delivery.{IsOnRoute}
use Rattle.tp_exec.specs.Settlings.{IsSentOut, IsSoundJournal}
use Rattle.tp_exec.proofs.NoHappenedBeforeCircle.{given}

-- what holds of all holds of the one at a place
pub all_at : {X : Type 0} (P : X → Type 0) (xs : List X) (k : ℕ) (x : X) → All P xs → slice_get xs k ≡ Some x → P x
all_at P xs k x h at = subst P (get_or_from_slice_get xs k x x at) (h k x (slice_get_within xs k x at))

-- each of the ports that a component has is one of the configuration
port_there : (s : Setup) (c : CompId) (port : ℕ) → port < length (ports_at s.types s.components c) → IsPort s (component_port c port)
unfolding decl_at
port_there s c port low =
    let d : PortDecl = record { name = []; ins = []; outs = [] } in
    subst (λ (o : Option PortDecl). IsSome o) (sym (slice_get-get_or (ports_at s.types s.components c) port d low)) refl

-- a route of a port comes from that port's component, which is one of the configuration
source_is : (s : Setup) → IsSetup s → (p : PortRef) (r : RouteId) → Contains (routes_from s p) r → IsComponent s r.source
unfolding routes_from
source_is s l p r h =
    let w = map_cases (route_to p) (beside s p) r h in
    subst (λ (x : RouteId). IsComponent s x.source) w.2 (port_component s p (beside_ports s l w.0 p (beside_back s p w.0 w.1)))

-- the sender and the receiver of a route into a component
into_source : (s : Setup) → IsSetup s → (c : CompId) (r : RouteId) → Contains (routes_into s c) r → IsComponent s r.source
into_source s l c r h = let w = (both_ways s l c r).0 h in source_is s l w.1.0 r w.1.1

into_port : (s : Setup) → IsSetup s → (c : CompId) (r : RouteId) → Contains (routes_into s c) r → IsPort s r.to
into_port s l c r h = let w = (both_ways s l c r).0 h in route_leads s l w.1.0 r w.1.1

-- the top of a queue was accepted
module _ {M : Type 0} (h : List (Event M)) where
  pub top_accepted : (e : Env M) → top h ≡ Some e → slice_get (accepted h) (gone h) ≡ Some e
  unfolding top
  top_accepted e is = by (nat_lt (gone h) (limit h)) is
    where
      by : (b : Bool) → cond b (slice_get (accepted h) (gone h)) None ≡ Some e → slice_get (accepted h) (gone h) ≡ Some e
      by true at = at
      by false at = absurd (none-some e at)

-- the senders of the messages at a port are components of the configuration
module _ (s : Setup) (c : CompId) (port : ℕ) where
  abbrev HasSender : Env Message → Type 0
  HasSender e = IsComponent s (sender_of e)

  -- the event lets a message in of which this holds
  abbrev LetsIn : Event Message → Type 0
  LetsIn (event.Arrive e) = HasSender e
  LetsIn _ = Unit {0}

  accepted_have : (h : List (Event Message)) → All LetsIn h → All HasSender (accepted h)
  unfolding accepted
  accepted_have [] all = All-nil HasSender
  accepted_have (event.Arrive e ∷ h) all = All-cons HasSender e (filter_map arrival h) (All-head LetsIn (event.Arrive e) h all)
      (accepted_have h (All-tail LetsIn (event.Arrive e) h all))
  accepted_have (event.Took e ∷ h) all = accepted_have h (All-tail LetsIn (event.Took e) h all)
  accepted_have (event.Found e ∷ h) all = accepted_have h (All-tail LetsIn (event.Found e) h all)
  accepted_have (event.Dropped e ∷ h) all = accepted_have h (All-tail LetsIn (event.Dropped e) h all)
  accepted_have (event.Cleared ∷ h) all = accepted_have h (All-tail LetsIn event.Cleared h all)
  accepted_have (event.Started ∷ h) all = accepted_have h (All-tail LetsIn event.Started h all)
  accepted_have (event.Stopped ∷ h) all = accepted_have h (All-tail LetsIn event.Stopped h all)
  accepted_have (event.Halted ∷ h) all = accepted_have h (All-tail LetsIn event.Halted h all)

  top_has : (h : List (Event Message)) (e : Env Message) → All LetsIn h → top h ≡ Some e → HasSender e
  top_has h e all is = all_at HasSender (accepted h) (gone h) e (accepted_have h all) (top_accepted h e is)

  -- so it is for a message that is the top once, at a place of a lawful history
  seen_has : (h : List (Event Message)) (n : ℕ) (v : Event Message) (e : Env Message) → Lawful h → All LetsIn h → slice_get h n ≡ Some v
      → (MayFollow (take n h) v → top (take n h) ≡ Some e) → HasSender e
  unfolding Lawful
  seen_has h n v e lawful all at is = top_has (take n h) e (All-take LetsIn n h all) (is (lawful n v at))

  event_lets : (rest : List (Event Message)) (v : Event Message) (b : Bool) → LetsIn v → All LetsIn rest → All LetsIn (cons_option (cond b (Some v) None) rest)
  event_lets rest v true h all = All-cons LetsIn v rest h all
  event_lets rest v false h all = all

  entry_lets : (e : Entry) (rest : List (Event Message)) → IsSetup s → IsOnRoute s c e → All LetsIn rest → All LetsIn (cons_option (event_at port e) rest)
  entry_lets (entry.Arrive p stamp env) rest l on all =
      event_lets rest (event.Arrive env) (port == p) (subst (λ n. n < length s.components) on.3 (into_source s l c on.0 on.1)) all
  entry_lets (entry.Took p b env) rest l on all = event_lets rest (event.Took env) (port == p) tt all
  entry_lets (entry.Found p b env) rest l on all = event_lets rest (event.Found env) (port == p) tt all
  entry_lets (entry.Dropped p b env) rest l on all = event_lets rest (event.Dropped env) (port == p) tt all
  entry_lets (entry.Cleared p) rest l on all = event_lets rest event.Cleared (port == p) tt all
  entry_lets (entry.Started p) rest l on all = event_lets rest event.Started (port == p) tt all
  entry_lets (entry.Stopped p) rest l on all = event_lets rest event.Stopped (port == p) tt all
  entry_lets (entry.Halted p) rest l on all = event_lets rest event.Halted (port == p) tt all
  entry_lets (entry.Sent r n m) rest l on all = all
  entry_lets entry.Else rest l on all = all
  entry_lets (entry.Verdict v) rest l on all = all
  entry_lets (entry.Failed fault) rest l on all = all

  history_lets : (k : List Entry) → IsSetup s → All (IsOnRoute s c) k → All LetsIn (history_of port k)
  unfolding history_of
  history_lets [] l all = All-nil LetsIn
  history_lets (e ∷ k) l all =
      entry_lets e (filter_map (event_at port) k) l (All-head (IsOnRoute s c) e k all) (history_lets k l (All-tail (IsOnRoute s c) e k all))

  -- the sender of a message that an entry says was seen
  seen_at : (k : List Entry) (n : ℕ) (x : Entry) (v : Event Message) (e : Env Message) → IsSetup s → All (IsOnRoute s c) k → Lawful (history_of port k)
      → slice_get k n ≡ Some x → event_at port x ≡ Some v → ((h : List (Event Message)) → MayFollow h v → top h ≡ Some e) → HasSender e
  unfolding history_of
  seen_at k n x v e l all lawful at is may =
      let w = given (event_at port) k n x v at is in
      seen_has (filter_map (event_at port) k) w.0 v e lawful (history_lets k l all) w.1 (may (take w.0 (filter_map (event_at port) k)))

-- the history of a component of a run
module _ (s : Setup) (l : IsSetup s) (c : CompId) (d : Journal) (ports : d.ports ≡ length (ports_at s.types s.components c)) (sound : IsSoundJournal d)
    (routed : All (IsOnRoute s c) d.log) (sent : All (IsSentOut s c) d.log) where
  there : (port : ℕ) → port < d.ports → IsPort s (component_port c port)
  there port low = port_there s c port (subst (λ n. port < n) ports low)

  seen : (port n : ℕ) (x : Entry) (v : Event Message) (e : Env Message) → port < d.ports → slice_get d.log n ≡ Some x → event_at port x ≡ Some v
      → ((h : List (Event Message)) → MayFollow h v → top h ≡ Some e) → IsComponent s (sender_of e)
  seen port n x v e low at is may = seen_at s c port d.log n x v e l routed (sound.lawful port low) at is may

  -- an entry is something at the port that it names
  itself : (port : ℕ) (v : Event Message) → cond (port == port) (Some v) None ≡ Some v
  itself port v = ap (λ b. cond b (Some v) None) (eq-eqb port port refl)

  known_at : (n : ℕ) (x : Entry) → slice_get d.log n ≡ Some x → IsWithin d.ports x → IsOnRoute s c x → IsSentOut s c x → IsKnown s c x
  known_at n (entry.Arrive p stamp e) at within on out = (there p within, subst (λ m. m < length s.components) on.3 (into_source s l c on.0 on.1))
  known_at n (entry.Took p b e) at within on out =
      (there p within, seen p n (entry.Took p b e) (event.Took e) e within at (itself p (event.Took e)) (λ h may. may))
  known_at n (entry.Found p b e) at within on out =
      (there p within, seen p n (entry.Found p b e) (event.Found e) e within at (itself p (event.Found e)) (λ h may. may))
  known_at n (entry.Dropped p b e) at within on out =
      (there p within, seen p n (entry.Dropped p b e) (event.Dropped e) e within at (itself p (event.Dropped e)) (λ h may. may))
  known_at n (entry.Cleared p) at within on out = there p within
  known_at n (entry.Started p) at within on out = there p within
  known_at n (entry.Stopped p) at within on out = there p within
  known_at n (entry.Halted p) at within on out = there p within
  known_at n (entry.Sent r number m) at within on out = into_port s l r.to.comp r out.1
  known_at n entry.Else at within on out = tt
  known_at n (entry.Verdict v) at within on out = tt
  known_at n (entry.Failed fault) at within on out = tt

  -- **it names what is of the configuration alone**
  pub known : All (IsKnown s c) d.log
  known n x low =
      known_at n (get_or d.log n x) (slice_get-get_or d.log n x low) (sound.within n x low) (routed n x low) (sent n x low)
