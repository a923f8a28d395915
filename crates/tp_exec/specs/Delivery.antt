-- What a report promises about the messages of a run.
use Rattle.std.specs.Prelude.{◌≡◌, ◌<◌, ℕ, List, [], ◌∷◌, Option, Some, None, Contains, length, map, slice_get}
use Rattle.std.specs.Prelude.{string_bytes, ◌+◌, ⊤}
use Rattle.tp_queue.specs.History.{Lawful}
use Rattle.tp_config.specs.declared.port_type.CompId.{CompId}
use Rattle.tp_config.specs.declared.port_type.RouteId.{RouteId}
use Rattle.tp_config.specs.Setup.{Setup, names_of_components, ports_at}
use Rattle.tp_config.specs.Routes.{routes_into}
use Rattle.tp_play.specs.Behaviours.{Behaviour}
use Rattle.tp_play.specs.TestCases.{Made, behaviour_at}
use Rattle.tp_inbox.specs.declared.entry.Entry.{Entry}
use Rattle.tp_inbox.specs.declared.entry.Entry.TheVariants as entry
use Rattle.tp_inbox.specs.Desks.{at_port}
use Rattle.tp_inbox.specs.History.{IsClocked, sent_on, sent_to, arrived_from, arrived_on, count_of}
use Rattle.tp_inbox.specs.declared.ending.End.{End}
use Rattle.tp_report.specs.declared.report.Report.{Report}
use Rattle.tp_report.specs.declared.report.CompReport.{CompReport}
use Rattle.tp_behaviour.specs.BehaviourEnds.{Follows}
use Rattle.tp_behaviour.specs.Fresh.{Fresh}
use Rattle.tp_report.specs.Verdicts.{local_verdict, overall_verdict, endings, locals}

-- the numbers from n on, one for each of these
abbrev pub numbers_from : {X : Type 0} → ℕ → List X → List ℕ
numbers_from n [] = []
numbers_from n (x ∷ xs) = n ∷ numbers_from (1 + n) xs

-- the two components of the report that a route joins
pub record Correspondents (components : List CompReport) (r : RouteId) : Type 0 where
  pub source : CompReport
  pub source_is : slice_get components r.source.0 ≡ Some source
  pub receiver : CompReport
  pub receiver_is : slice_get components r.to.comp.0 ≡ Some receiver

-- on a route, the messages that were sent according to the sender's trace are those that arrived at the receiver, in
-- that order and each once, numbered from 0 and with their stamps, and as many as the sender counted
pub record IsDelivered (components : List CompReport) (r : RouteId) : Type 0 where
  pub pair : Correspondents components r
  pub same : sent_on r pair.source.desk.log ≡ arrived_on r pair.receiver.desk.log
  pub numbered : map (λ s. s.0) (sent_on r pair.source.desk.log) ≡ numbers_from 0 (sent_on r pair.source.desk.log)
  pub counted : count_of r pair.receiver.counts.items ≡ length (sent_on r pair.source.desk.log)

-- the messages that arrived at the component d from the component c, over all ports of d, are those that c sent to d,
-- over all ports of c: all of them, in the order in which they were sent and each once, at the ports to which they were
-- sent. This holds even if c sends at one port and then at another; and if none of their ports are connected or mapped,
-- there are no such messages
abbrev pub IsDeliveredBetween : CompId → CompId → List Entry → List Entry → Type 0
IsDeliveredBetween c d sent came = sent_to d sent ≡ arrived_from d c came

-- if the entry is an arrival, it came on a route of the configuration
abbrev pub IsOnRoute : Setup → CompId → Entry → Type 0
IsOnRoute s c (entry.Arrive port stamp e) =
    (r : RouteId) × Contains (routes_into s c) r × (r.to.port ≡ port) × (r.source.0 ≡ e.sender)
IsOnRoute s c _ = ⊤

-- the history follows the behaviour of a component to this end; a component without a body does nothing, and ends at
-- once
abbrev pub FollowsBehaviour : Setup → CompId → Option Behaviour → List Entry → End → Type 0
FollowsBehaviour s c (Some d) k end = Follows (record { config = s; comp = c; references = d.references }) d.body k end
FollowsBehaviour s c None k end =
    Follows (record { config = s; comp = c; references = [] }) (record { variables = []; statements = [] }) k end

-- the report of one component of the test case
pub record IsCompReport (made : Made) (c : CompId) (x : CompReport) : Type 0 where
  -- it is that of the component, with its ports
  pub name : slice_get (names_of_components made.config) c.0 ≡ Some (string_bytes x.name)
  pub comp : x.desk.comp ≡ c
  pub ports : x.desk.ports ≡ length (ports_at made.config.types made.config.components c)
  -- every port's history obeys the rules of a port
  pub lawful : (port : ℕ) → port < x.desk.ports → Lawful (at_port x.desk port)
  -- every arrival came on a route of the configuration
  pub routed : (k : ℕ) (e : Entry) → slice_get x.desk.log k ≡ Some e → IsOnRoute made.config c e
  -- each message that it sent has a stamp above those of all messages that it had got or sent before
  pub clocked : IsClocked x.desk.log
  -- the trace follows the behaviour to its end
  pub follows : FollowsBehaviour made.config c (behaviour_at made c.0) x.desk.log x.ending
  -- each operation has seen what the component had sent to itself
  pub fresh : Fresh c x.desk.log
  pub verdict : x.verdict ≡ local_verdict x.desk.log
  pub routes : map (λ n. n.0) x.counts.items ≡ routes_into made.config c

-- **delivery**: the report of a run of this test case
pub record IsReportOf (made : Made) (report : Report) : Type 0 where
  pub everyone : length report.components.items ≡ length made.config.components
  pub each : (c : CompId) (x : CompReport) → slice_get report.components.items c.0 ≡ Some x → IsCompReport made c x
  pub delivered : (c : CompId) (r : RouteId) → Contains (routes_into made.config c) r
      → IsDelivered report.components.items r
  pub between : (c d : CompId) (x y : CompReport) → slice_get report.components.items c.0 ≡ Some x
      → slice_get report.components.items d.0 ≡ Some y → IsDeliveredBetween c d x.desk.log y.desk.log
  pub result : report.result ≡ overall_verdict (endings report.components.items) (locals report.components.items)
