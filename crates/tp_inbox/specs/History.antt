-- The history of a component, and what it says about each port, about each route, and about the actions of the
-- behaviour. A history is the whole list of the component's entries, the oldest first. It only grows, and the
-- definitions filter it.
use Rattle.std.specs.Prelude.{◌≡◌, ℕ, ◌+◌, ◌-◌, ◌<◌, max, Bool, true, false, not, ◌&&◌, ◌==◌, cond, Option}
use Rattle.std.specs.Prelude.{Some, None, List, [], ◌∷◌, filter, length, slice_get, take}
use Rattle.std.specs.List.{filter_map}
use Rattle.std.specs.Option.{option_and_then}
use Rattle.tp_common.specs.declared.event.Env.{Env}
use Rattle.tp_common.specs.declared.event.Event.{Event}
use Rattle.tp_common.specs.declared.event.Event.TheVariants as event
use Rattle.tp_value.specs.declared.message.Message.{Message}
use Rattle.tp_config.specs.declared.port_type.CompId.{CompId}
use Rattle.tp_config.specs.declared.port_type.RouteId.{RouteId}
use Rattle.tp_inbox.specs.declared.stamped.Stamped.{Stamped}
use Rattle.tp_inbox.specs.declared.posted.Posted.{Posted}
use Rattle.tp_inbox.specs.declared.entry.Entry.{Entry}
use Rattle.tp_inbox.specs.declared.entry.Entry.TheVariants as entry

-- the event of an entry at this port, if it names the port: the entry without its port, branch and stamp
abbrev pub event_at : ℕ → Entry → Option (Event Message)
event_at port (entry.Arrive p stamp env) = cond (port == p) (Some (event.Arrive env)) None
event_at port (entry.Took p branch env) = cond (port == p) (Some (event.Took env)) None
event_at port (entry.Found p branch env) = cond (port == p) (Some (event.Found env)) None
event_at port (entry.Dropped p branch env) = cond (port == p) (Some (event.Dropped env)) None
event_at port (entry.Cleared p) = cond (port == p) (Some event.Cleared) None
event_at port (entry.Started p) = cond (port == p) (Some event.Started) None
event_at port (entry.Stopped p) = cond (port == p) (Some event.Stopped) None
event_at port (entry.Halted p) = cond (port == p) (Some event.Halted) None
event_at port (entry.Sent r number m) = None
event_at port entry.Else = None
event_at port (entry.Verdict v) = None
event_at port (entry.Failed fault) = None

-- the history of a port: the events of the entries that name it, in order
unfoldable pub history_of : ℕ → List Entry → List (Event Message)
history_of port k = filter_map (event_at port) k

-- the envelope that the entry took or found, if it did
abbrev pub chosen_by : Entry → Option (Env Message)
chosen_by (entry.Took port branch env) = Some env
chosen_by (entry.Found port branch env) = Some env
chosen_by _ = None

-- the envelope that the last entry of a history took or found, if it did
abbrev pub last_chosen : List Entry → Option (Env Message)
last_chosen k = option_and_then chosen_by (slice_get k (length k - 1))

abbrev pub is_arrival : Entry → Bool
is_arrival (entry.Arrive p stamp env) = true
is_arrival _ = false

-- the entries of the component's own behaviour: its history without the arrivals
unfoldable pub trace : List Entry → List Entry
trace k = filter (λ e. not (is_arrival e)) k

-- the arrivals of a component's history
unfoldable pub arrivals : List Entry → List Entry
arrivals k = filter is_arrival k

abbrev pub same_route : RouteId → RouteId → Bool
same_route r q = (r.source.0 == q.source.0) && (r.to.comp.0 == q.to.comp.0) && (r.to.port == q.to.port)

-- the number and the stamped message, if the entry is a sending on this route
abbrev pub sending_on : RouteId → Entry → Option (ℕ × Stamped)
sending_on r (entry.Sent q number m) = cond (same_route r q) (Some (number, m)) None
sending_on r _ = None

-- the messages that the component sent on a route, in order, with their numbers and stamps
unfoldable pub sent_on : RouteId → List Entry → List (ℕ × Stamped)
sent_on r k = filter_map (sending_on r) k

-- the number and the stamped message, if the entry is an arrival at the route's port from the route's sender
abbrev pub arrival_on : RouteId → Entry → Option (ℕ × Stamped)
arrival_on r (entry.Arrive p stamp env) =
    cond
    ((r.to.port == p) && (r.source.0 == env.sender))
    (Some (env.number, record { stamp = stamp; message = env.msg }))
    None
arrival_on r _ = None

-- the messages that arrived at the component on a route, in order, with their numbers and stamps
unfoldable pub arrived_on : RouteId → List Entry → List (ℕ × Stamped)
arrived_on r k = filter_map (arrival_on r) k

-- an arrival at `comp` from `source`: its route, its number there, and the stamped message
abbrev pub arrival_from : CompId → CompId → Entry → Option Posted
arrival_from comp source (entry.Arrive p stamp env) =
    cond
    (source.0 == env.sender)
    (Some record {
      route = record { source = source; to = record { comp = comp; port = p } };
      number = env.number;
      stamped = record { stamp = stamp; message = env.msg };
    })
    None
arrival_from comp source _ = None

-- the messages that arrived at `comp` from `source`, over all routes and in order
unfoldable pub arrived_from : CompId → CompId → List Entry → List Posted
arrived_from comp source k = filter_map (arrival_from comp source) k

-- a sending to this component: its route, its number there, and the stamped message
abbrev pub sending_to : CompId → Entry → Option Posted
sending_to comp (entry.Sent q number m) =
    cond (comp.0 == q.to.comp.0) (Some record { route = q; number = number; stamped = m }) None
sending_to comp _ = None

-- the messages that were sent to this component, over all routes and in order
unfoldable pub sent_to : CompId → List Entry → List Posted
sent_to comp k = filter_map (sending_to comp) k

-- the number and the stamped message, if it was put on this route
abbrev pub posting_on : RouteId → Posted → Option (ℕ × Stamped)
posting_on r x = cond (same_route r x.route) (Some (x.number, x.stamped)) None

-- those of these messages that were put on this route, in order, with their numbers and stamps
unfoldable pub posted_on : RouteId → List Posted → List (ℕ × Stamped)
posted_on r xs = filter_map (posting_on r) xs

-- the number that is listed with a route, or 0 if the route isn't listed
abbrev pub count_of : RouteId → List (RouteId × ℕ) → ℕ
count_of r [] = 0
count_of r (c ∷ cs) = cond (same_route r c.0) c.1 (count_of r cs)

-- the stamped messages, numbered from n
abbrev pub numbered : ℕ → List Stamped → List (ℕ × Stamped)
numbered n [] = []
numbered n (m ∷ ms) = (n, m) ∷ numbered (n + 1) ms

-- the stamp of the message that was sent or arrived, or 0 for any other entry
abbrev pub stamp_of : Entry → ℕ
stamp_of (entry.Arrive p stamp env) = stamp
stamp_of (entry.Sent r number m) = m.stamp
stamp_of _ = 0

-- the greatest stamp in a history, or 0 if it has none
abbrev pub clock_of : List Entry → ℕ
clock_of [] = 0
clock_of (e ∷ es) = max (stamp_of e) (clock_of es)

-- the entry may follow this history: the stamp of a sending is above all stamps before it
abbrev pub IsTimely : List Entry → Entry → Type 0
IsTimely k (entry.Sent r number m) = clock_of k < m.stamp
IsTimely k _ = Unit {0}

-- each entry may follow those before it: a message is sent with a greater stamp than all that were sent or arrived
-- before
unfoldable pub IsClocked : List Entry → Type 0
IsClocked k = (n : ℕ) (e : Entry) → slice_get k n ≡ Some e → IsTimely (take n k) e

-- the message with the next stamp after this history
abbrev pub next_of : List Entry → Message → Stamped
next_of k m = record { stamp = clock_of k + 1; message = m }
