-- How the parts of a worker are related to one another, and to the behaviour that it executes.
use Rattle.std.specs.Prelude.{◌≡◌, ◌≢◌, ℕ, Option, Some, None, List, All, Contains, length, map, slice_get, ⊤}
use Rattle.std.specs.List.{AllZip}
use Rattle.tp_value.specs.declared.message.Message.{Message}
use Rattle.tp_config.specs.declared.port_type.CompId.{CompId}
use Rattle.tp_config.specs.declared.port_type.RouteId.{RouteId}
use Rattle.tp_config.specs.Setup.{ports_at}
use Rattle.tp_config.specs.Routes.{routes_from}
use Rattle.tp_play.specs.declared.body.VariableType.{VariableType}
use Rattle.tp_play.specs.declared.body.VariableType.TheVariants as variable_type
use Rattle.tp_inbox.specs.declared.entry.Entry.{Entry}
use Rattle.tp_inbox.specs.declared.entry.Entry.TheVariants as entry
use Rattle.tp_inbox.specs.History.{arrivals, sent_to}
use Rattle.tp_inbox.specs.Ledgers.{Inbox, IsDeskOf, SenderLedger, end_of}
use Rattle.tp_behaviour.specs.declared.held.Held.{Held}
use Rattle.tp_behaviour.specs.declared.held.Held.TheVariants as held
use Rattle.tp_behaviour.specs.declared.task.Task.{Task}
use Rattle.tp_behaviour.specs.declared.worker.Worker.{Worker}
use Rattle.tp_behaviour.specs.declared.worker.Frame.{Frame}
use Rattle.tp_behaviour.specs.Fresh.{Fresh}
use Rattle.tp_behaviour.specs.Held.{Actor, Values}
use Rattle.tp_behaviour.specs.Outboxes.{IsAimed, routes_of}
use Rattle.tp_behaviour.specs.Paths.{own_port}

-- the identity of a task's behaviour
abbrev pub role_of : Task → Actor
role_of p = record { config = p.config.now; comp = p.comp; references = map (λ c. c.0) p.behaviour.references.now }

-- the values of the loop variables and the variables of a frame
abbrev pub values_of : Frame → Values
values_of s = record { turns = s.turns.items; variables = s.variables.items }

-- the inbox is the component's, and these are the routes of its senders
pub record AreEndsOf (r : Actor) (inbox : Inbox) (out : List RouteId) : Type 0 where
  pub comp : inbox.comp ≡ r.comp
  pub ports : inbox.ports ≡ length (ports_at r.config.types r.config.components r.comp)
  -- the routes into the inbox lead to the component
  pub here : All (λ (x : RouteId). x.to.comp ≡ r.comp) inbox.routes
  -- the component has a sender on each of its routes: on those into its own inbox, and on those from its ports
  pub loops : All (λ (x : RouteId). x.source ≡ r.comp → Contains out x) inbox.routes
  pub from_ports : (port : ℕ) (x : RouteId) → Contains (routes_from r.config (own_port r port)) x → Contains out x

-- if the entry is a sending, it is on one of these routes
abbrev pub IsSentBy : List RouteId → Entry → Type 0
IsSentBy out (entry.Sent x number m) = Contains out x
IsSentBy out _ = ⊤

-- an entry that neither the inbox nor a sender knows: no arrival, and no sending
abbrev pub IsPlain : Entry → Type 0
IsPlain (entry.Arrive port stamp e) = ⊥
IsPlain (entry.Sent x number m) = ⊥
IsPlain _ = ⊤

-- the sender has put what the history says was sent to its inbox's component, over all routes, in this order
abbrev pub IsLedgerOf : List Entry → SenderLedger → Type 0
IsLedgerOf k s = sent_to s.inbox.comp k ≡ s.ledger

-- the sender is this component's, and its routes lead to the component of its inbox
abbrev pub IsSenderOf : CompId → SenderLedger → Type 0
IsSenderOf c s = (s.source ≡ c) × IsAimed s

-- the parts of a worker agree on what has happened, and each operation on ports so far has seen what the component had
-- sent to itself
pub record IsConsistent (r : Actor) (s : Worker) : Type 0 where
  pub ends : AreEndsOf r s.owner.inbox (routes_of s.outbox)
  pub desk : IsDeskOf s.owner.inbox s.desk
  pub arrived : arrivals s.desk.log ≡ s.owner.drained
  pub noted : All (IsLedgerOf s.desk.log) s.outbox
  pub theirs : All (IsSenderOf r.comp) s.outbox
  pub sent : All (IsSentBy (routes_of s.outbox)) s.desk.log
  pub fresh : Fresh r.comp s.desk.log

-- its inbox is the same, and its senders put into the same inboxes, for the same component and on the same routes
pub record KeepsInboxes (before after : Worker) : Type 0 where
  pub inbox : after.owner.inbox ≡ before.owner.inbox
  pub ends : map end_of after.outbox ≡ map end_of before.outbox

-- this can be the content of a variable of this type: nothing, or a message or a component as declared
abbrev pub IsHeldAs : VariableType → Option Held → Type 0
IsHeldAs _ None = ⊤
IsHeldAs (variable_type.Message u) (Some (held.Value m)) = ⊤
IsHeldAs variable_type.Component (Some (held.Component c)) = ⊤
IsHeldAs _ _ = ⊥

-- there is a variable at this place, and it holds no component
abbrev pub HoldsMessages : List (Option Held) → ℕ → Type 0
HoldsMessages variables k = (x : Option Held) × (slice_get variables k ≡ Some x)
    × ((c : CompId) → x ≢ Some (held.Component c))

-- there is a variable at this place, and it holds no message
abbrev pub HoldsNoMessage : List (Option Held) → ℕ → Type 0
HoldsNoMessage variables k = (x : Option Held) × (slice_get variables k ≡ Some x)
    × ((m : Message) → x ≢ Some (held.Value m))

-- each variable holds what its type allows
abbrev pub AreHeld : List VariableType → List (Option Held) → Type 0
AreHeld types variables = AllZip IsHeldAs types variables
