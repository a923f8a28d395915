-- What one order says about messages: a look at ports sees exactly the messages that were sent before it. So if two
-- components each send to the other and then look, at least one of them sees the other's message.
use Rattle.std.specs.Prelude.{◌≡◌, ℕ, ◌<◌, ◌+◌, ◌==◌, true, cond, Option, Some, None, List, slice_get, take}
use Rattle.std.specs.List.{filter_map}
use Rattle.tp_config.specs.declared.port_type.CompId.{CompId}
use Rattle.tp_play.specs.TestCases.{Made}
use Rattle.tp_inbox.specs.declared.entry.Entry.{Entry}
use Rattle.tp_inbox.specs.declared.posted.Posted.{Posted}
use Rattle.tp_inbox.specs.History.{arrived_from, sending_to}
use Rattle.tp_report.specs.declared.report.CompReport.{CompReport}
use Rattle.tp_report.specs.declared.report.Report.{Report}
use Rattle.tp_behaviour.specs.Fresh.{LooksAtPorts}
use Rattle.tp_exec.specs.Delivery.{IsReportOf}
use Rattle.tp_exec.specs.CausalOrder.{Spot}
use Rattle.tp_judge.specs.OneOrder.{IsAt}
use Rattle.tp_exec.specs.OneOrder.{HasOneOrder, IsOrderOf, came_before, entry_at_spot, log_in, logs_of, sends_to}
use Rattle.tp_exec.specs.OneOrder.{many, count_sent_to}

-- the message that the entry sends to the component
abbrev pub sending_in : CompId → Option Entry → Option Posted
sending_in d (Some e) = sending_to d e
sending_in d None = None

-- the message that is sent to the component d at this spot, if the spot is one of c
abbrev pub posted_at : List (List Entry) → CompId → CompId → Spot → Option Posted
posted_at logs c d a = cond (c.0 == a.comp) (sending_in d (entry_at_spot logs a)) None

-- the messages that c sends to d at these spots, in their order
abbrev pub posted_by : List (List Entry) → CompId → CompId → List Spot → List Posted
posted_by logs c d order = filter_map (posted_at logs c d) order

-- in an order that gives the histories of a report, the messages that had arrived at d from c before d looked at ports
-- are those that c sent to d before that in the order: all of them, in the order of sending
abbrev pub LooksSeeSent : Type 0
LooksSeeSent =
    (made : Made) (report : Report) (order : List Spot) (c d : CompId) (x y : CompReport) (i place : ℕ) (e : Entry)
    → IsReportOf made report → IsOrderOf (logs_of report.components.items) order
    → slice_get report.components.items c.0 ≡ Some x → slice_get report.components.items d.0 ≡ Some y
    → IsAt order i (record { comp = d.0; place = place }) → slice_get y.desk.log place ≡ Some e → LooksAtPorts e
    → arrived_from d c (take place y.desk.log) ≡ posted_by (logs_of report.components.items) c d (take i order)

-- c sends to d at the place p of its history, and looks at ports at the later place q; and the look missed the message
-- that d sent at its place r: before the look, fewer messages from d had arrived at c than d sends to c up to and
-- including the place r
pub record Misses (logs : List (List Entry)) (c p q d r : ℕ) : Type 0 where
  pub sent : sends_to d (entry_at_spot logs (record { comp = c; place = p })) ≡ true
  pub looks_later : p < q
  pub look : Entry
  pub stands : entry_at_spot logs (record { comp = c; place = q }) ≡ Some look
  pub looks : LooksAtPorts look
  pub fewer : many d (came_before logs (record { comp = c; place = q })) < count_sent_to c (take (r + 1) (log_in logs d))

-- if one order gives the histories, and two components each send to the other and then look, at least one of them sees
-- what the other sent there. If c and d are the same, this holds for one component that sends to itself
abbrev pub CrossedLooks : Type 0
CrossedLooks =
    (logs : List (List Entry)) (c d p q r s : ℕ) → Misses logs c p q d r → Misses logs d r s c p → ¬ HasOneOrder logs
