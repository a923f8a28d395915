-- The routes into a component, and the arrivals that envelopes on these routes become.
use Rattle.std.specs.Prelude.{◌≡◌, ◌≢◌, ℕ, ◌<◌, cond, ◌==◌, List, [], ◌∷◌, ◌++◌, map, filter, slice_index_or, All}
use Rattle.std.specs.Prelude.{AllPairs, Contains}
use Rattle.std.specs.List.{list_any}
use Rattle.tp_common.specs.declared.event.Env.{Env}
use Rattle.tp_value.specs.declared.message.Message.{Message}
use Rattle.tp_config.specs.declared.port_type.CompId.{CompId}
use Rattle.tp_config.specs.declared.port_type.RouteId.{RouteId}
use Rattle.tp_inbox.specs.declared.entry.Entry.{Entry}
use Rattle.tp_inbox.specs.declared.entry.Entry.TheVariants as entry
use Rattle.tp_inbox.specs.declared.envelope.InboxEnvelope.{InboxEnvelope}
use Rattle.tp_inbox.specs.declared.stamped.Stamped.{Stamped}
use Rattle.tp_inbox.specs.declared.posted.Posted.{Posted}
use Rattle.tp_inbox.specs.History.{numbered, arrived_on, arrived_from}
use Rattle.tp_inbox.specs.Envelopes.{Begins}

-- these are routes into this component, which has this number of ports, and no two are equal
pub record AreRoutes (comp : CompId) (ports : ℕ) (routes : List RouteId) : Type 0 where
  pub here : All (λ (r : RouteId). r.to.comp ≡ comp) routes
  pub within : All (λ (r : RouteId). r.to.port < ports) routes
  pub apart : AllPairs (λ (r q : RouteId). r ≢ q) routes

-- the placeholder for a route past the end of a list
abbrev pub absent_route : RouteId
absent_route = record { source = record { 0 = 0 }; to = record { comp = record { 0 = 0 }; port = 0 } }

-- the route at this place
abbrev pub route_at : List RouteId → ℕ → RouteId
route_at routes place = slice_index_or routes place absent_route

-- the routes from this component, in order
abbrev pub routes_by : CompId → List RouteId → List RouteId
routes_by source routes = filter (λ (r : RouteId). source.0 == r.source.0) routes

-- these components, followed by this one unless it is one of them
abbrev pub with_source : List CompId → CompId → List CompId
with_source sources c = cond (list_any (λ (s : CompId). s.0 == c.0) sources) sources (sources ++ c ∷ [])

-- these components, followed by the others from which these routes lead, each once, in the order of its first route
abbrev pub sources_behind : List CompId → List RouteId → List CompId
sources_behind sources [] = sources
sources_behind sources (r ∷ rs) = sources_behind (with_source sources r.source) rs

-- the components from which these routes lead, each once, in the order of its first route
abbrev pub sources_of : List RouteId → List CompId
sources_of routes = sources_behind [] routes

-- the message of an envelope, with its route and its number
abbrev pub posted_of : List RouteId → InboxEnvelope → Posted
posted_of routes e = record { route = route_at routes e.place; number = e.number; stamped = e.stamped }

-- the envelope that a port gets when this envelope of the inbox is moved to it
abbrev pub env_of : List RouteId → InboxEnvelope → Env Message
env_of routes e = record { sender = (route_at routes e.place).source.0; number = e.number; msg = e.stamped.message }

-- the entry of this arrival
abbrev pub arrival_of : List RouteId → InboxEnvelope → Entry
arrival_of routes e = entry.Arrive (route_at routes e.place).to.port e.stamped.stamp (env_of routes e)

abbrev pub arrivals_of : List RouteId → List InboxEnvelope → List Entry
arrivals_of routes es = map (arrival_of routes) es

-- the entries of the arrivals in the rest of an inbox
abbrev pub rest_arrivals : List (ℕ × Env Message × ℕ) → List Entry
rest_arrivals rest = map (λ x. entry.Arrive x.0 x.2 x.1) rest

-- an arrival on one of these routes
abbrev pub IsArrivalOn : List RouteId → Entry → Type 0
IsArrivalOn routes (entry.Arrive port stamp env) =
    (r : RouteId) × Contains routes r × (r.to.port ≡ port) × (r.source.0 ≡ env.sender)
IsArrivalOn routes _ = ⊥

-- on each of these routes the arrivals are numbered from 0
abbrev pub AreArrivalsNumbered : List RouteId → List Entry → Type 0
AreArrivalsNumbered routes es = All (λ (r : RouteId). (ms : List Stamped) × (arrived_on r es ≡ numbered 0 ms)) routes

-- all of these are arrivals on these routes, and they are numbered from 0 on each route
pub record AreArrivals (routes : List RouteId) (es : List Entry) : Type 0 where
  pub routed : All (IsArrivalOn routes) es
  pub order : AreArrivalsNumbered routes es

-- for each of these components, the messages that arrived from it at this one are a prefix of what it has put there,
-- with its routes and numbers, in its order over all routes
abbrev pub AreBegun : CompId → List Entry → List (CompId × List Posted) → Type 0
AreBegun comp es sent = All (λ (s : CompId × List Posted). Begins (arrived_from comp s.0 es) s.1) sent

-- for each of these components, the messages that arrived from it at this one are what it has put there: all of it,
-- with its routes and numbers, in its order over all routes
abbrev pub AreDelivered : CompId → List Entry → List (CompId × List Posted) → Type 0
AreDelivered comp es sent = All (λ (s : CompId × List Posted). arrived_from comp s.0 es ≡ s.1) sent
