-- What happened before what in a run, according to its report.
use Rattle.std.specs.Prelude.{◌≡◌, ℕ, ◌<◌, Option, Some, None, List, [], slice_get}
use Rattle.tp_common.specs.declared.event.Env.{Env}
use Rattle.tp_value.specs.declared.message.Message.{Message}
use Rattle.tp_config.specs.declared.port_type.RouteId.{RouteId}
use Rattle.tp_inbox.specs.declared.stamped.Stamped.{Stamped}
use Rattle.tp_inbox.specs.declared.entry.Entry.{Entry}
use Rattle.tp_inbox.specs.declared.entry.Entry.TheVariants as entry
use Rattle.tp_report.specs.declared.report.Report.{Report}
use Rattle.tp_report.specs.declared.report.CompReport.{CompReport}

-- the history that is reported of a component; empty if there is no such component
abbrev pub log_of : Option CompReport → List Entry
log_of (Some x) = x.desk.log
log_of None = []

-- a place in the histories of a report: the number of the component, and the place in its history
pub record Spot : Type 0 where
  pub comp : ℕ
  pub place : ℕ

-- this entry is at the spot
abbrev pub StandsAt : Report → Spot → Entry → Type 0
StandsAt report a e = slice_get (log_of (slice_get report.components.items a.comp)) a.place ≡ Some e

-- the entry at the first spot happened before the entry at the second
pub data HappensBefore (report : Report) : Spot → Spot → Type 0 where
  -- both are in the history of one component, the first before the second
  earlier : (c j k : ℕ) (e : Entry) → j < k → StandsAt report (record { comp = c; place = k }) e
      → HappensBefore report (record { comp = c; place = j }) (record { comp = c; place = k })
  -- or the first is a sending, and the second is its arrival: on its route, with its number
  sent : (r : RouteId) (j k number stamp : ℕ) (m : Stamped) (e : Env Message)
      → StandsAt report (record { comp = r.source.0; place = j }) (entry.Sent r number m)
      → StandsAt report (record { comp = r.to.comp.0; place = k }) (entry.Arrive r.to.port stamp e)
      → e.sender ≡ r.source.0 → e.number ≡ number
      → HappensBefore report (record { comp = r.source.0; place = j }) (record { comp = r.to.comp.0; place = k })
  -- or there is an entry between them
  between : (a b c : Spot) → HappensBefore report a b → HappensBefore report b c → HappensBefore report a c

-- **nothing happened before itself**: no message depends on its own arrival
abbrev pub NoCircle : Report → Type 0
NoCircle report = (a : Spot) → ¬ HappensBefore report a a

-- the message that was sent on this route under this number arrived, at this place of its receiver's history
pub record CameAt (report : Report) (a : ℕ) (r : RouteId) (number : ℕ) : Type 0 where
  pub arrived : Env Message
  pub stamp : ℕ
  pub stands : StandsAt report (record { comp = r.to.comp.0; place = a }) (entry.Arrive r.to.port stamp arrived)
  pub sender : arrived.sender ≡ r.source.0
  pub numbered : arrived.number ≡ number

-- **no message overtakes another**: of two messages from one component to one other, at any ports, the one that was
-- sent first arrived first
abbrev pub NoneOvertakes : Report → Type 0
NoneOvertakes report =
    (r q : RouteId) (i j n o a b : ℕ) (m w : Stamped) → r.source ≡ q.source → r.to.comp ≡ q.to.comp → i < j
    → StandsAt report (record { comp = r.source.0; place = i }) (entry.Sent r n m)
    → StandsAt report (record { comp = q.source.0; place = j }) (entry.Sent q o w)
    → CameAt report a r n → CameAt report b q o → a < b
