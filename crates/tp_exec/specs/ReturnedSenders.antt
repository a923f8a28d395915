-- Which component has which senders while they return to their inboxes, and what is known after that.
use Rattle.std.specs.Prelude.{◌≡◌, ◌≢◌, ◌<◌, ◌++◌, ℕ, Some, List, [], All, filter, length, map, slice_get}
use Rattle.std.specs.Prelude.{slice_index_or}
use Rattle.std.specs.Global.{Global}
use Rattle.std.specs.List.{AllZip, flat_map}
use Rattle.std.specs.Option.{option_map_or}
use Rattle.std.specs.declared.vec.IntoIter.{IntoIter}
use Rattle.std.specs.Vec.Iter.{into_iter_items}
use Rattle.indexmap.specs.IndexMap.{IndexMap, get}
use Rattle.tp_common.specs.declared.event.Env.{Env}
use Rattle.tp_value.specs.declared.message.Message.{Message}
use Rattle.tp_config.specs.declared.port_type.CompId.{CompId}
use Rattle.tp_config.specs.declared.port_type.RouteId.{RouteId}
use Rattle.tp_config.specs.Setup.{Setup}
use Rattle.tp_config.specs.Routes.{routes_into}
use Rattle.tp_inbox.specs.declared.entry.Entry.{Entry}
use Rattle.tp_inbox.specs.declared.stamped.Stamped.{Stamped}
use Rattle.tp_inbox.specs.History.{arrivals, arrived_from, arrived_on, count_of, numbered, posted_on, sent_on, sent_to}
use Rattle.tp_inbox.specs.Ledgers.{Inbox, IsDeskOf, SenderLedger, end_of}
use Rattle.tp_inbox.specs.Places.{route_eq}
use Rattle.tp_inbox.specs.Routed.{IsArrivalOn, rest_arrivals, sources_of}
use Rattle.tp_behaviour.specs.Workers.{IsLedgerOf}
use Rattle.tp_exec.specs.declared.ended.EndedComponent.{EndedComponent}
use Rattle.tp_exec.specs.declared.idle.Idle.{Idle}
use Rattle.tp_exec.specs.declared.played.Played.{Played}
use Rattle.tp_exec.specs.Rounds.{Link, comes_from, link_by, links_in}
use Rattle.tp_exec.specs.Settlings.{IsSoundJournal}

-- a component without its senders
abbrev pub idle_of : Played → Idle
idle_of p = record { owner = p.worker.owner; desk = p.worker.desk; outcome = p.outcome }

abbrev pub outbox_of : Played → List SenderLedger
outbox_of p = p.worker.outbox

-- the history of the component of this number; empty if there is no such component
abbrev pub log_at : List Played → ℕ → List Entry
log_at played k = option_map_or (λ (p : Played). p.worker.desk.log) (slice_get played k) []

-- the links into an inbox from these components
abbrev pub links_by : Inbox → List CompId → List Link
links_by inbox sources = map (link_by inbox) sources

-- the links into the inboxes of these components, inbox after inbox
abbrev pub links_to : List Idle → List Link
links_to idles = flat_map (λ (x : Idle). links_in x.owner.inbox) idles

-- the table has, for this route, how many messages the sender has put on it
abbrev pub IsFiled : {S : Type 0} → IndexMap RouteId ℕ S → SenderLedger → RouteId → Type 0
IsFiled counts s r = get route_eq counts r ≡ Some (length (posted_on r s.ledger))

-- the same for each of the sender's routes
abbrev pub AreFiledOf : {S : Type 0} → IndexMap RouteId ℕ S → SenderLedger → Type 0
AreFiledOf counts s = All (IsFiled counts s) s.routes

-- no route of the one sender is one of the other
abbrev pub ShareNone : SenderLedger → SenderLedger → Type 0
ShareNone s t = All (λ (r : RouteId). All (λ (q : RouteId). q ≢ r) t.routes) s.routes

-- the route's count is the number of messages that were put on it
abbrev pub IsCounted : List (RouteId × ℕ) → SenderLedger → RouteId → Type 0
IsCounted counts s r = count_of r counts ≡ length (posted_on r s.ledger)

-- each component has the senders on those of these links that are from it, in their order, and its history, one of
-- `logs`, has noted what they have put
pub record AreAtHand (logs : ℕ → List Entry) (hands : List (IntoIter SenderLedger Global)) (links : List Link) : Type 0 where
  pub each : (k : ℕ) (d : IntoIter SenderLedger Global) → k < length hands
      → map end_of (into_iter_items (slice_index_or hands k d)) ≡ filter (comes_from k) links
  pub noted : (k : ℕ) (d : IntoIter SenderLedger Global) → k < length hands
      → All (IsLedgerOf (logs k)) (into_iter_items (slice_index_or hands k d))
  pub within : All (λ (link : Link). link.1.0 < length hands) links

-- the sender is that on this link, and its component's history has noted what it has put
abbrev pub IsHandedBack : (ℕ → List Entry) → Link → SenderLedger → Type 0
IsHandedBack logs link s = (end_of s ≡ link) × IsLedgerOf (logs link.1.0) s

-- the components have the senders on these links, before any others
abbrev pub CanTake : List (IntoIter SenderLedger Global) → List Link → Type 0
CanTake hands links = (logs : ℕ → List Entry) × (more : List Link) × AreAtHand logs hands (links ++ more)

-- after the senders on these links were taken, the components still have all others
abbrev pub Leaves : List (IntoIter SenderLedger Global) → List Link → List (IntoIter SenderLedger Global) → Type 0
Leaves hands links after =
    (logs : ℕ → List Entry) (more : List Link) → AreAtHand logs hands (links ++ more) → AreAtHand logs after more

-- the senders on these links, which the components have before any others, are these
abbrev pub Gives : List (IntoIter SenderLedger Global) → List Link → List SenderLedger → Type 0
Gives hands links senders =
    (logs : ℕ → List Entry) (more : List Link) → AreAtHand logs hands (links ++ more)
    → AllZip (IsHandedBack logs) links senders

-- its inbox and its desk are those of one component, the inbox's routes are those into that component, and what its
-- owner has drained is what has arrived at the desk
pub record IsIdleComponent (s : Setup) (x : Idle) : Type 0 where
  pub desk : IsDeskOf x.owner.inbox x.desk
  pub arrived : arrivals x.desk.log ≡ x.owner.drained
  pub routes : x.owner.inbox.routes ≡ routes_into s x.desk.comp

-- the second is the component after more messages have arrived, and nothing else has changed; its history is sound,
-- each arrival came on a route into its inbox, and there is a count for each of these routes
pub record IsEndingOf (x : Idle) (e : EndedComponent) : Type 0 where
  pub outcome : e.outcome ≡ x.outcome
  pub comp : e.desk.comp ≡ x.desk.comp
  pub ports : e.desk.ports ≡ x.desk.ports
  pub rest : List (ℕ × Env Message × ℕ)
  pub grown : e.desk.log ≡ x.desk.log ++ rest_arrivals rest
  pub sound : IsSoundJournal e.desk
  pub routed : All (IsArrivalOn x.owner.inbox.routes) (arrivals e.desk.log)
  pub counts : map (λ n. n.0) e.counts.items ≡ x.owner.inbox.routes

-- all messages that were sent on the route, according to the history of its sender, have arrived at this component, and
-- they are counted
pub record HasCome (logs : ℕ → List Entry) (e : EndedComponent) (r : RouteId) : Type 0 where
  pub ledger : List Stamped
  pub sent : sent_on r (logs r.source.0) ≡ numbered 0 ledger
  pub arrived : arrived_on r e.desk.log ≡ numbered 0 ledger
  pub counted : count_of r e.counts.items ≡ length ledger

-- over all routes into this inbox, the messages that arrived from that component are those that its history says were
-- sent there, in its order
abbrev pub HasComeFrom : (ℕ → List Entry) → Inbox → EndedComponent → CompId → Type 0
HasComeFrom logs inbox e c = sent_to inbox.comp (logs c.0) ≡ arrived_from inbox.comp c e.desk.log

-- all messages to the component have arrived: on each route into this inbox, and from each component with such routes
pub record HasAll (logs : ℕ → List Entry) (inbox : Inbox) (e : EndedComponent) : Type 0 where
  pub routes : All (HasCome logs e) inbox.routes
  pub sources : All (HasComeFrom logs inbox e) (sources_of inbox.routes)

-- the component has ended, and all messages to it have arrived
pub record HasEndedWithAll (logs : ℕ → List Entry) (x : Idle) (e : EndedComponent) : Type 0 where
  pub end : IsEndingOf x e
  pub come : HasAll logs x.owner.inbox e

-- all messages that were put by the senders into the component's inbox, which these components have, have arrived at it
abbrev pub AllCome : List (IntoIter SenderLedger Global) → Idle → EndedComponent → Type 0
AllCome hands x e =
    (logs : ℕ → List Entry) (more : List Link) → AreAtHand logs hands (links_in x.owner.inbox ++ more)
    → HasAll logs x.owner.inbox e
