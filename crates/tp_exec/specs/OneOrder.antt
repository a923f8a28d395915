-- What histories of entries say, for one order that gives all of them. A component is known by its number, and an entry
-- by its place in the component's history: the two are a spot.
use Rattle.std.specs.Prelude.{◌≡◌, ℕ, ◌<◌, ◌==◌, Bool, false, cond, Option, Some, None, List, [], map, take}
use Rattle.std.specs.Prelude.{slice_get, slice_index_or}
use Rattle.std.specs.List.{filter_map, sum_by}
use Rattle.tp_inbox.specs.declared.entry.Entry.{Entry}
use Rattle.tp_inbox.specs.declared.entry.Entry.TheVariants as entry
use Rattle.tp_inbox.specs.History.{is_arrival}
use Rattle.tp_report.specs.declared.report.CompReport.{CompReport}
use Rattle.tp_report.specs.declared.report.Report.{Report}
use Rattle.tp_behaviour.specs.Fresh.{LooksAtPorts}
use Rattle.tp_judge.specs.OneOrder.{Histories}
use Rattle.tp_judge.specs.OneOrder as orders
use Rattle.tp_exec.specs.CausalOrder.{Spot}

-- the histories of these components
abbrev pub logs_of : List CompReport → List (List Entry)
logs_of components = map (λ x. x.desk.log) components

-- the history of the component of this number; empty if there is none
abbrev pub log_in : List (List Entry) → ℕ → List Entry
log_in logs c = slice_index_or logs c []

-- the entry at the spot
abbrev pub entry_at_spot : List (List Entry) → Spot → Option Entry
entry_at_spot logs a = slice_get (log_in logs a.comp) a.place

-- the entry at the spot is something that its component did itself
pub record IsOwn (logs : List (List Entry)) (a : Spot) : Type 0 where
  pub act : Entry
  pub stands : entry_at_spot logs a ≡ Some act
  pub own : is_arrival act ≡ false

-- the sender of the message that arrived, if the entry is an arrival
abbrev pub source_of : Entry → Option ℕ
source_of (entry.Arrive port stamp env) = Some env.sender
source_of _ = None

-- the senders of the messages that arrived, in the order of arrival
abbrev pub sources : List Entry → List ℕ
sources k = filter_map source_of k

-- whether the entry is a sending to the component of this number
abbrev pub sends_to : ℕ → Option Entry → Bool
sends_to d (Some (entry.Sent r number m)) = d == r.to.comp.0
sends_to d _ = false

-- the component of the spot, if the entry there is a sending to the component d
abbrev pub sender_to : List (List Entry) → ℕ → Spot → Option ℕ
sender_to logs d a = cond (sends_to d (entry_at_spot logs a)) (Some a.comp) None

-- the senders of the messages that are sent to the component at these spots, in their order
abbrev pub senders_to : List (List Entry) → ℕ → List Spot → List ℕ
senders_to logs d order = filter_map (sender_to logs d) order

-- the senders of the messages that had arrived at the component before the spot
abbrev pub came_before : List (List Entry) → Spot → List ℕ
came_before logs a = sources (take a.place (log_in logs a.comp))

-- what the histories say, with messages compared by their senders alone
abbrev pub histories_of : List (List Entry) → Histories Spot ℕ
histories_of logs = record {
  component = λ a. a.comp;
  IsOwn = IsOwn logs;
  IsEarlier = λ a b. (a.comp ≡ b.comp) × (a.place < b.place);
  IsLook = λ a. (e : Entry) × (entry_at_spot logs a ≡ Some e) × LooksAtPorts e;
  sent_to = sender_to logs;
  came_before = came_before logs;
  came = λ c. sources (log_in logs c);
}

-- the order gives the histories
abbrev pub IsOrderOf : List (List Entry) → List Spot → Type 0
IsOrderOf logs order = orders.IsOrderOf (histories_of logs) order

-- **one order**: there is such an order
abbrev pub HasOneOrder : List (List Entry) → Type 0
HasOneOrder logs = orders.HasOneOrder (histories_of logs)

-- one order gives all histories of the report
abbrev pub IsInOneOrder : Report → Type 0
IsInOneOrder report = HasOneOrder (logs_of report.components.items)

-- how many messages are sent to the component in this history
abbrev pub count_sent_to : ℕ → List Entry → ℕ
count_sent_to d k = sum_by (λ e. cond (sends_to d (Some e)) 1 0) k

-- how often the number is in the list
abbrev pub many : ℕ → List ℕ → ℕ
many c xs = sum_by (λ x. cond (x == c) 1 0) xs
