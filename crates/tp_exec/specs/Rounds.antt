-- The workers of a run: which inbox and which senders each one has, before and after the threads.
use Rattle.std.specs.Prelude.{◌≡◌, ℕ, Bool, ◌==◌, Option, Some, None, List, [], filter, length, map, slice_get}
use Rattle.std.specs.List.{flat_map}
use Rattle.tp_config.specs.declared.port_type.CompId.{CompId}
use Rattle.tp_config.specs.declared.port_type.RouteId.{RouteId}
use Rattle.tp_config.specs.Setup.{Setup}
use Rattle.tp_config.specs.Routes.{routes_into}
use Rattle.tp_play.specs.Behaviours.{Behaviour}
use Rattle.tp_play.specs.TestCases.{Made, behaviour_at}
use Rattle.tp_inbox.specs.declared.entry.Entry.{Entry}
use Rattle.tp_inbox.specs.Ledgers.{Inbox, end_of}
use Rattle.tp_inbox.specs.Routed.{routes_by, sources_of}
use Rattle.tp_behaviour.specs.declared.worker.Worker.{Worker}
use Rattle.tp_behaviour.specs.declared.outcome.Outcome.{Outcome}
use Rattle.tp_behaviour.specs.Workers.{IsConsistent}
use Rattle.tp_behaviour.specs.Outcomes.{HasEnded, WaitsWithin}
use Rattle.tp_exec.specs.declared.played.Played.{Played}

-- the component of this number
abbrev pub comp_at : ℕ → CompId
comp_at k = record { 0 = k }

-- the worker is that of this component, whatever its body refers to
abbrev pub IsWorkerOf : Setup → ℕ → Worker → Type 0
IsWorkerOf s k x =
    (references : List ℕ) → IsConsistent (record { config = s; comp = comp_at k; references = references }) x

-- a link: an inbox, a component that sends into it, and its routes there
abbrev pub Link : Type 0
Link = Inbox × CompId × List RouteId

-- the link into this inbox from this component
abbrev pub link_by : Inbox → CompId → Link
link_by inbox source = (inbox, source, routes_by source inbox.routes)

-- the link comes from this component
abbrev pub comes_from : ℕ → Link → Bool
comes_from k link = link.1.0 == k

-- the links into an inbox: one for each component that has routes into it
abbrev pub links_in : Inbox → List Link
links_in inbox = map (link_by inbox) (sources_of inbox.routes)

-- the links of a run, inbox after inbox
abbrev pub all_links : List Worker → List Link
all_links workers = flat_map (λ (x : Worker). links_in x.owner.inbox) workers

-- the workers of all components, in their order: each has the inbox of its component, with all routes into the
-- component, and the senders of all links that come from it, in the order of the inboxes
pub record AreWorkers (s : Setup) (workers : List Worker) : Type 0 where
  pub everyone : length workers ≡ length s.components
  pub worker_of : (k : ℕ) (x : Worker) → slice_get workers k ≡ Some x → IsWorkerOf s k x
  pub routes : (k : ℕ) (x : Worker) → slice_get workers k ≡ Some x → x.owner.inbox.routes ≡ routes_into s (comp_at k)
  pub senders : (k : ℕ) (x : Worker) → slice_get workers k ≡ Some x
      → map end_of x.outbox ≡ filter (comes_from k) (all_links workers)

-- nothing has happened at the worker's desk
abbrev pub HasNotBegun : Worker → Type 0
HasNotBegun x = x.desk.log ≡ []

-- the workers of these components
abbrev pub workers_of : List Played → List Worker
workers_of played = map (λ (p : Played). p.worker) played

-- a component with this behaviour, or with none, has ended with this outcome and this history
abbrev pub BehaviourEnded : Setup → CompId → Option Behaviour → Outcome → List Entry → Type 0
BehaviourEnded s c (Some d) o k = HasEnded (record { config = s; comp = c; references = d.references }) d.body o k
BehaviourEnded s c None o k =
    HasEnded (record { config = s; comp = c; references = [] }) (record { variables = []; statements = [] }) o k

-- the component of this number has executed its behaviour, if it has one
pub record HasPlayed (made : Made) (k : ℕ) (p : Played) : Type 0 where
  pub ended : BehaviourEnded made.config (comp_at k) (behaviour_at made k) p.outcome p.worker.desk.log
  pub within : WaitsWithin p.worker.desk.ports p.outcome

abbrev pub ArePlayed : Made → List Played → Type 0
ArePlayed made played = (k : ℕ) (p : Played) → slice_get played k ≡ Some p → HasPlayed made k p
