-- What one order says about all messages to one component, at any ports and from any components: they arrive in the
-- order in which they are sent, so none arrives before a message whose sending happened before its own.
use Rattle.std.specs.Prelude.{◌≡◌, ℕ, ◌<◌, ◌+◌, Option, Some, None, List, slice_get, take}
use Rattle.std.specs.List.{filter_map}
use Rattle.tp_common.specs.declared.event.Env.{Env}
use Rattle.tp_value.specs.declared.message.Message.{Message}
use Rattle.tp_config.specs.declared.port_type.CompId.{CompId}
use Rattle.tp_config.specs.declared.port_type.RouteId.{RouteId}
use Rattle.tp_play.specs.TestCases.{Made}
use Rattle.tp_inbox.specs.declared.stamped.Stamped.{Stamped}
use Rattle.tp_inbox.specs.declared.posted.Posted.{Posted}
use Rattle.tp_inbox.specs.declared.entry.Entry.{Entry}
use Rattle.tp_inbox.specs.declared.entry.Entry.TheVariants as entry
use Rattle.tp_report.specs.declared.report.CompReport.{CompReport}
use Rattle.tp_report.specs.declared.report.Report.{Report}
use Rattle.tp_exec.specs.Delivery.{IsReportOf}
use Rattle.tp_exec.specs.CausalOrder.{CameAt, HappensBefore, Spot, StandsAt}
use Rattle.tp_judge.specs.OneOrder.{IsAt, IsFrontOf}
use Rattle.tp_exec.specs.OneOrder.{IsInOneOrder, IsOrderOf, entry_at_spot, logs_of}
use Rattle.tp_exec.specs.LookLaws.{sending_in}

-- an arrival at the component: its route, its number there, and the stamped message
abbrev pub came_to : CompId → Entry → Option Posted
came_to d (entry.Arrive port stamp env) =
    Some record {
      route = record { source = record { 0 = env.sender }; to = record { comp = d; port = port } };
      number = env.number;
      stamped = record { stamp = stamp; message = env.msg };
    }
came_to d _ = None

-- the messages that arrived at the component from all components, in the order of arrival
abbrev pub all_came_to : CompId → List Entry → List Posted
all_came_to d k = filter_map (came_to d) k

-- the messages that all components send to this one at these spots, in their order
abbrev pub all_sent_to : List (List Entry) → CompId → List Spot → List Posted
all_sent_to logs d order = filter_map (λ a. sending_in d (entry_at_spot logs a)) order

-- this message was on top of the queue of the port: it was received there, found or discarded
abbrev pub HadOnTop : ℕ → Env Message → Entry → Type 0
HadOnTop port env (entry.Took p branch e) = (p ≡ port) × (e ≡ env)
HadOnTop port env (entry.Found p branch e) = (p ≡ port) × (e ≡ env)
HadOnTop port env (entry.Dropped p branch e) = (p ≡ port) × (e ≡ env)
HadOnTop port env _ = ⊥

-- the messages to the component d, whose report this is, arrive as they are sent in the order
pub record ComeInOrder (report : Report) (order : List Spot) (d : CompId) (y : CompReport) : Type 0 where
  -- the messages that arrived are those that were sent: all of them, each once, in the order of sending over all
  -- senders
  pub all : all_came_to d y.desk.log ≡ all_sent_to (logs_of report.components.items) d order
  -- before d had a message on top of a queue, all messages that were sent to d up to and including that one had
  -- arrived, ahead of any others
  pub before : (r : RouteId) (i place : ℕ) (a : Spot) (e : Entry) (env : Env Message) (m : Stamped)
      → r.to.comp ≡ d → r.to.port < y.desk.ports → env.sender ≡ r.source.0
      → slice_get y.desk.log place ≡ Some e → HadOnTop r.to.port env e
      → IsAt order i a → entry_at_spot (logs_of report.components.items) a ≡ Some (entry.Sent r env.number m)
      → IsFrontOf (all_sent_to (logs_of report.components.items) d (take (i + 1) order)) (all_came_to d (take place y.desk.log))

-- messages arrive as they are sent in each order that gives the histories of a report
abbrev pub MessagesComeAsSent : Type 0
MessagesComeAsSent =
    (made : Made) (report : Report) (order : List Spot) (d : CompId) (y : CompReport)
    → IsReportOf made report → IsOrderOf (logs_of report.components.items) order
    → slice_get report.components.items d.0 ≡ Some y → ComeInOrder report order d y

-- **causal delivery**: if the sending of one message happened before that of another message to the same component, at
-- any ports and from any components, and the other one has arrived, then the first one had arrived before it
abbrev pub DeliveryIsCausal : Type 0
DeliveryIsCausal =
    (made : Made) (report : Report) (r q : RouteId) (i j n o b : ℕ) (m w : Stamped)
    → IsReportOf made report → IsInOneOrder report → r.to.comp ≡ q.to.comp
    → HappensBefore report (record { comp = r.source.0; place = i }) (record { comp = q.source.0; place = j })
    → StandsAt report (record { comp = r.source.0; place = i }) (entry.Sent r n m)
    → StandsAt report (record { comp = q.source.0; place = j }) (entry.Sent q o w)
    → CameAt report b q o → (a : ℕ) × (a < b) × CameAt report a r n
