-- What contracts see of an inbox's ends.
use Rattle.std.specs.Prelude.{◌≡◌, ◌==◌, ℕ, cond, List, [], ◌∷◌, ◌++◌, length, map, take, All}
use Rattle.std.specs.Global.{Global}
use Rattle.crossbeam_queue.specs.SegTies.{SegId}
use Rattle.tp_inbox.specs.declared.stamped.Stamped.{Stamped}
use Rattle.tp_config.specs.declared.port_type.CompId.{CompId}
use Rattle.tp_config.specs.declared.port_type.RouteId.{RouteId}
use Rattle.tp_inbox.specs.declared.posted.Posted.{Posted}
use Rattle.tp_inbox.specs.declared.entry.Entry.{Entry}
use Rattle.tp_inbox.specs.History.{arrived_on, posted_on}
use Rattle.tp_inbox.specs.Routed.{route_at, routes_by, sources_of}
use Rattle.tp_inbox.specs.Desks.{Journal}

-- an inbox: its component, the number of that component's ports, the routes into it, and its queue
pub record Inbox : Type 0 where
  pub comp : CompId
  pub ports : ℕ
  pub routes : List RouteId
  pub queue : SegId Global

-- a sender: its inbox, the component that sends with it, its routes, which all lead from that component into the inbox,
-- and what it has put, in its order over all its routes
pub record SenderLedger : Type 0 where
  pub inbox : Inbox
  pub source : CompId
  pub routes : List RouteId
  pub ledger : List Posted

-- an owner: its inbox, and the arrivals that it has drained
pub record Draining : Type 0 where
  pub inbox : Inbox
  pub drained : List Entry

-- an owner and its senders, after all of them have ended: the inbox, the arrivals that were drained, those that were
-- taken out and are kept, and what each sender has put
pub record Gathering : Type 0 where
  pub inbox : Inbox
  pub drained : List Entry
  pub kept : List Entry
  pub sent : List (CompId × List Posted)

-- the number of messages on the route that were drained: 0 if it leads to another component than the inbox's
abbrev pub drained_on : Draining → RouteId → ℕ
drained_on d route = cond (route.to.comp.0 == d.inbox.comp.0) (length (arrived_on route d.drained)) 0

-- the messages that a sender has put on this one of its routes, with their numbers and stamps
abbrev pub put_on_way : SenderLedger → ℕ → List (ℕ × Stamped)
put_on_way s way = posted_on (route_at s.routes way) s.ledger

-- the sender after it has put one more message, on this route
abbrev pub posting : SenderLedger → RouteId → Stamped → SenderLedger
posting s r m =
    record s { ledger = s.ledger ++ record { route = r; number = length (posted_on r s.ledger); stamped = m } ∷ [] }

-- the sender after it has put one more message, on this one of its routes
abbrev pub putting : SenderLedger → ℕ → Stamped → SenderLedger
putting s way m = posting s (route_at s.routes way) m

-- a sender of this component into this inbox that has put nothing, with those of the inbox's first n routes that are
-- from the component
abbrev pub sender_by : Inbox → ℕ → CompId → SenderLedger
sender_by inbox n source =
    record { inbox = inbox; source = source; routes = routes_by source (take n inbox.routes); ledger = [] }

-- the senders of this inbox after its first n routes were added
abbrev pub AreMade : Inbox → ℕ → List SenderLedger → Type 0
AreMade inbox n senders = senders ≡ map (sender_by inbox n) (sources_of (take n inbox.routes))

-- a sender of this component into this inbox that has put nothing, with all routes from the component
abbrev pub new_sender : Inbox → CompId → SenderLedger
new_sender inbox source = record { inbox = inbox; source = source; routes = routes_by source inbox.routes; ledger = [] }

-- a sender into this inbox that has this one route, and has put nothing
abbrev pub first_sender : Inbox → RouteId → SenderLedger
first_sender inbox r = record { inbox = inbox; source = r.source; routes = r ∷ []; ledger = [] }

-- the sender with one more route
abbrev pub extended : SenderLedger → RouteId → SenderLedger
extended s r = record s { routes = s.routes ++ r ∷ [] }

-- the identity of a sender: its inbox, its component and its routes, but not what it has put
abbrev pub end_of : SenderLedger → Inbox × CompId × List RouteId
end_of s = (s.inbox, s.source, s.routes)

-- a sender of this inbox, with all routes from its component
abbrev pub IsSenderInto : Inbox → SenderLedger → Type 0
IsSenderInto inbox s = (s.inbox ≡ inbox) × (s.routes ≡ routes_by s.source inbox.routes)

-- the senders of this inbox, one for each component that has routes into it, in the order of their first routes
abbrev pub AreSenders : Inbox → List SenderLedger → Type 0
AreSenders inbox senders =
    All (IsSenderInto inbox) senders × (map (λ (s : SenderLedger). s.source) senders ≡ sources_of inbox.routes)

-- the component that sends with a sender, and what it has put
abbrev pub put_by : SenderLedger → CompId × List Posted
put_by s = (s.source, s.ledger)

-- the desk is that of the inbox's component
abbrev pub IsDeskOf : Inbox → Journal → Type 0
IsDeskOf inbox d = (d.comp ≡ inbox.comp) × (d.ports ≡ inbox.ports)
