-- The components of a run after all messages have arrived.
use Rattle.std.specs.Prelude.{◌≡◌, ◌<◌, ◌++◌, ℕ, Some, List, All, Contains, length, map, slice_get}
use Rattle.tp_common.specs.declared.event.Env.{Env}
use Rattle.tp_queue.specs.History.{Lawful}
use Rattle.tp_value.specs.declared.message.Message.{Message}
use Rattle.tp_config.specs.declared.port_type.CompId.{CompId}
use Rattle.tp_config.specs.declared.port_type.RouteId.{RouteId}
use Rattle.tp_config.specs.Setup.{Setup, ports_at}
use Rattle.tp_config.specs.Routes.{routes_into}
use Rattle.tp_inbox.specs.declared.entry.Entry.{Entry}
use Rattle.tp_inbox.specs.declared.entry.Entry.TheVariants as entry
use Rattle.tp_inbox.specs.declared.stamped.Stamped.{Stamped}
use Rattle.tp_inbox.specs.Desks.{IsWithin, Journal, at_port}
use Rattle.tp_inbox.specs.History.{IsClocked, arrived_on, count_of, numbered, sent_on}
use Rattle.tp_inbox.specs.Routed.{rest_arrivals}
use Rattle.tp_play.specs.TestCases.{Made, behaviour_at}
use Rattle.tp_behaviour.specs.Fresh.{Fresh}
use Rattle.tp_behaviour.specs.Outcomes.{WaitsWithin}
use Rattle.tp_exec.specs.declared.played.Played.{Played}
use Rattle.tp_exec.specs.declared.ended.EndedComponent.{EndedComponent}
use Rattle.tp_exec.specs.Delivery.{IsDeliveredBetween, IsOnRoute}
use Rattle.tp_exec.specs.Rounds.{BehaviourEnded, comp_at}

-- each port has a lawful history, the entries name no other port, and the stamps of the sendings grow
pub record IsSoundJournal (d : Journal) : Type 0 where
  pub lawful : (port : ℕ) → port < d.ports → Lawful (at_port d port)
  pub within : All (IsWithin d.ports) d.log
  pub clocked : IsClocked d.log

-- the component is the one that played, with the same outcome; its history, which is sound, has more arrivals at its
-- end, and nothing else has changed
pub record IsSettled (p : Played) (e : EndedComponent) : Type 0 where
  pub outcome : e.outcome ≡ p.outcome
  pub comp : e.desk.comp ≡ p.worker.desk.comp
  pub ports : e.desk.ports ≡ p.worker.desk.ports
  pub rest : List (ℕ × Env Message × ℕ)
  pub grown : e.desk.log ≡ p.worker.desk.log ++ rest_arrivals rest
  pub sound : IsSoundJournal e.desk

-- on a route, all messages that were sent have arrived, in that order, numbered from 0 and with their stamps, and they
-- are as many as the sender has put
pub record IsAllThere (ended : List EndedComponent) (r : RouteId) : Type 0 where
  pub source : EndedComponent
  pub source_is : slice_get ended r.source.0 ≡ Some source
  pub receiver : EndedComponent
  pub receiver_is : slice_get ended r.to.comp.0 ≡ Some receiver
  pub same : sent_on r source.desk.log ≡ arrived_on r receiver.desk.log
  pub ledger : List Stamped
  pub numbered : sent_on r source.desk.log ≡ numbered 0 ledger
  pub counted : count_of r receiver.counts.items ≡ length ledger

-- all messages of the run have arrived
pub record HasAllCome (s : Setup) (ended : List EndedComponent) : Type 0 where
  pub everyone : length ended ≡ length s.components
  -- each arrival came on a route of the configuration
  pub routed : (k : ℕ) (e : EndedComponent) → slice_get ended k ≡ Some e → All (IsOnRoute s (comp_at k)) e.desk.log
  pub there : (k : ℕ) (r : RouteId) → Contains (routes_into s (comp_at k)) r → IsAllThere ended r
  -- delivery from each component to each, over all routes and in one order
  pub between : (c d : CompId) (x y : EndedComponent) → slice_get ended c.0 ≡ Some x → slice_get ended d.0 ≡ Some y
      → IsDeliveredBetween c d x.desk.log y.desk.log
  pub counts : (k : ℕ) (e : EndedComponent) → slice_get ended k ≡ Some e
      → map (λ n. n.0) e.counts.items ≡ routes_into s (comp_at k)

-- these are the components that played, after all messages have arrived
pub record AreSettled (s : Setup) (played : List Played) (ended : List EndedComponent) : Type 0 where
  pub each : (k : ℕ) (e : EndedComponent) → slice_get ended k ≡ Some e
      → (p : Played) × (slice_get played k ≡ Some p) × IsSettled p e
  pub come : HasAllCome s ended

-- if the entry is a sending, it is from this component, on a route of the configuration
abbrev pub IsSentOut : Setup → CompId → Entry → Type 0
IsSentOut s c (entry.Sent r number m) = (r.source ≡ c) × Contains (routes_into s r.to.comp) r
IsSentOut s c _ = Unit {0}

-- a component after a run: it is at its place, it has executed its behaviour, each operation has seen what the
-- component had sent to itself, each sending is on a route of the configuration, and its history is sound
pub record IsEndedComponentOf (made : Made) (k : ℕ) (e : EndedComponent) : Type 0 where
  pub comp : e.desk.comp ≡ comp_at k
  pub ports : e.desk.ports ≡ length (ports_at made.config.types made.config.components (comp_at k))
  pub ended : BehaviourEnded made.config (comp_at k) (behaviour_at made k) e.outcome e.desk.log
  pub within : WaitsWithin e.desk.ports e.outcome
  pub fresh : Fresh (comp_at k) e.desk.log
  pub sent : All (IsSentOut made.config (comp_at k)) e.desk.log
  pub sound : IsSoundJournal e.desk

-- the components after a run of the test case
pub record IsOfARun (made : Made) (ended : List EndedComponent) : Type 0 where
  pub each : (k : ℕ) (e : EndedComponent) → slice_get ended k ≡ Some e → IsEndedComponentOf made k e
  pub come : HasAllCome made.config ended
