-- The senders of a component.
use Rattle.std.specs.Prelude.{◌≡◌, ◌≤◌, ◌<◌, ◌==◌, ℕ, cond, Some, List, [], ◌∷◌, ◌++◌, All, Contains, length, map}
use Rattle.std.specs.Prelude.{slice_get}
use Rattle.std.specs.List.{flat_map}
use Rattle.indexmap.specs.IndexMap.{IndexMap, get}
use Rattle.tp_config.specs.declared.port_type.RouteId.{RouteId}
use Rattle.tp_inbox.specs.declared.stamped.Stamped.{Stamped}
use Rattle.tp_inbox.specs.declared.entry.Entry.{Entry}
use Rattle.tp_inbox.specs.History.{arrived_on, posted_on}
use Rattle.tp_inbox.specs.Ledgers.{Inbox, SenderLedger, posting}
use Rattle.tp_inbox.specs.Places.{route_eq}
use Rattle.tp_behaviour.specs.declared.outbox.RoutePlace.{RoutePlace}

-- the routes of these senders, sender after sender
abbrev pub routes_of : List SenderLedger → List RouteId
routes_of senders = flat_map (λ (s : SenderLedger). s.routes) senders

-- the sender after a message was put on this route: it is unchanged if the route leads to another inbox
abbrev pub put_on : RouteId → Stamped → SenderLedger → SenderLedger
put_on route m s = cond (s.inbox.comp.0 == route.to.comp.0) (posting s route m) s

-- the message was put on this route, with this number, by a sender into the inbox to which the route leads
abbrev pub HasPut : RouteId → Stamped → ℕ → List SenderLedger → List SenderLedger → Type 0
HasPut route m n before after =
    ((s : SenderLedger) × Contains before s × (route.to.comp ≡ s.inbox.comp) × (n ≡ length (posted_on route s.ledger)))
    × (after ≡ map (put_on route m) before)

-- the sender that has this route has put as many messages there as a route takes
abbrev pub IsRouteFull : RouteId → List SenderLedger → Type 0
IsRouteFull route senders =
    (s : SenderLedger) × Contains senders s × Contains s.routes route × (100000 ≤ length (posted_on route s.ledger))

-- a sender from a component to itself
abbrev pub LeadsBack : SenderLedger → Type 0
LeadsBack s = s.inbox.comp ≡ s.source

-- the second list of places is the first, with this place added if the sender leads back
abbrev pub IsListed : SenderLedger → ℕ → List ℕ → List ℕ → Type 0
IsListed s place before after = after ≡ cond (s.inbox.comp.0 == s.source.0) (before ++ place ∷ []) before

-- if the sender leads back, it leads to the component of this inbox
abbrev pub IsHome : Inbox → SenderLedger → Type 0
IsHome inbox s = LeadsBack s → s.inbox.comp ≡ inbox.comp

-- the sender's routes lead to its inbox's component
abbrev pub IsAimed : SenderLedger → Type 0
IsAimed s = All (λ (r : RouteId). r.to.comp ≡ s.inbox.comp) s.routes

-- as many messages arrived on this route as the sender has put there
abbrev pub IsLevelOn : List Entry → SenderLedger → RouteId → Type 0
IsLevelOn es s r = length (arrived_on r es) ≡ length (posted_on r s.ledger)

-- on each of its routes, as many messages arrived as the sender has put there
abbrev pub IsLevel : List Entry → SenderLedger → Type 0
IsLevel es s = All (IsLevelOn es s) s.routes

-- the table finds the first n of these routes, each at its place, as routes of the sender at this place
abbrev pub AreFiledAt : {S : Type 0} → ℕ → List RouteId → ℕ → IndexMap RouteId RoutePlace S → Type 0
AreFiledAt n routes place places =
    (w : ℕ) (r : RouteId) → w < n → slice_get routes w ≡ Some r
    → get route_eq places r ≡ Some record { sender = place; route_index = w }

-- the table finds each route of each sender at its place; the routes of a sender lead to its inbox's component, and no
-- two senders lead to the same component; the senders that lead back are listed, and no others
pub record AreSendersFiled {S : Type 0} (senders : List SenderLedger) (places : IndexMap RouteId RoutePlace S)
    (loops : List ℕ) : Type 0 where
  pub found : (k : ℕ) (s : SenderLedger) → slice_get senders k ≡ Some s → AreFiledAt (length s.routes) s.routes k places
  pub aimed : All IsAimed senders
  pub apart : (j k : ℕ) (s t : SenderLedger) → slice_get senders j ≡ Some s → slice_get senders k ≡ Some t
      → s.inbox.comp ≡ t.inbox.comp → j ≡ k
  pub within : All (λ k. k < length senders) loops
  pub back : All (λ k. (s : SenderLedger) → slice_get senders k ≡ Some s → LeadsBack s) loops
  pub listed : (k : ℕ) (s : SenderLedger) → slice_get senders k ≡ Some s → LeadsBack s → Contains loops k
