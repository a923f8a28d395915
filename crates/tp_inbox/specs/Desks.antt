-- What contracts see of a desk, and what its calls return and do.
use Rattle.std.specs.Prelude.{◌≡◌, ℕ, ◌<◌, Bool, true, false, Option, Some, None, List, [], ◌∷◌, ◌++◌, length}
use Rattle.std.specs.Prelude.{slice_index_or, All}
use Rattle.tp_common.specs.declared.event.Env.{Env}
use Rattle.tp_common.specs.declared.event.Event.{Event}
use Rattle.tp_queue.specs.History.{top}
use Rattle.tp_common.specs.Criteria.{Satisfies}
use Rattle.tp_queue.specs.Answers.{Finds, FindsNone}
use Rattle.tp_queue.specs.Queues.{QueueState, StandsFor, state_of}
use Rattle.tp_value.specs.declared.message.Message.{Message}
use Rattle.tp_config.specs.declared.port_type.CompId.{CompId}
use Rattle.tp_config.specs.declared.port_type.RouteId.{RouteId}
use Rattle.tp_inbox.specs.declared.entry.Entry.{Entry}
use Rattle.tp_inbox.specs.declared.entry.Entry.TheVariants as entry
use Rattle.tp_inbox.specs.declared.triggered.Triggered.{Triggered}
use Rattle.tp_inbox.specs.declared.triggered.Triggered.TheVariants as triggered
use Rattle.tp_inbox.specs.History.{IsClocked, clock_of, history_of, next_of}

-- a desk: its component, the number of that component's ports, and its history
pub record Journal : Type 0 where
  pub comp : CompId
  pub ports : ℕ
  pub log : List Entry

-- the desk of this component, with this number of ports and an empty history
abbrev pub new_desk : CompId → ℕ → Journal
new_desk comp ports = record { comp = comp; ports = ports; log = [] }

-- the desk with this entry added at the end of its history
abbrev pub adding : Journal → Entry → Journal
adding d e = record d { log = d.log ++ e ∷ [] }

-- the desk with these entries added at the end of its history
abbrev pub adding_all : Journal → List Entry → Journal
adding_all d es = record d { log = d.log ++ es }

-- the second desk is the first with one more entry: a sending of some message under the next stamp
abbrev pub NotesSending : Journal → Journal → Type 0
NotesSending d after =
    (r : RouteId) × (number : ℕ) × (m : Message) × (after ≡ adding d (entry.Sent r number (next_of d.log m)))

-- the entry names no port of its component: it is a sending, an `[else]`, a verdict, or the fault of a send
abbrev pub NamesNoPort : Entry → Type 0
NamesNoPort (entry.Sent r number m) = Unit {0}
NamesNoPort entry.Else = Unit {0}
NamesNoPort (entry.Verdict v) = Unit {0}
NamesNoPort (entry.Failed fault) = Unit {0}
NamesNoPort _ = ⊥

-- if the entry names a port of its component, the port is one of the first n
abbrev pub IsWithin : ℕ → Entry → Type 0
IsWithin n (entry.Arrive port stamp env) = port < n
IsWithin n (entry.Took port branch env) = port < n
IsWithin n (entry.Found port branch env) = port < n
IsWithin n (entry.Dropped port branch env) = port < n
IsWithin n (entry.Cleared port) = port < n
IsWithin n (entry.Started port) = port < n
IsWithin n (entry.Stopped port) = port < n
IsWithin n (entry.Halted port) = port < n
IsWithin n (entry.Sent r number m) = Unit {0}
IsWithin n entry.Else = Unit {0}
IsWithin n (entry.Verdict v) = Unit {0}
IsWithin n (entry.Failed fault) = Unit {0}

-- the history of this port
abbrev pub at_port : Journal → ℕ → List (Event Message)
at_port d port = history_of port d.log

-- the result of `receive`, and the desk after it
abbrev pub ReceivesAt : (Message → Type 0) → Option ℕ → ℕ → ℕ → Journal → Bool → Journal → Type 0
ReceivesAt admits from port branch d true after =
    (e : Env Message) × Finds admits from (at_port d port) e × (after ≡ adding d (entry.Took port branch e))
ReceivesAt admits from port branch d false after = FindsNone admits from (at_port d port) × (after ≡ d)

-- the result of `trigger`, and the desk after it
abbrev pub TriggersAt : (Message → Type 0) → Option ℕ → ℕ → ℕ → Journal → Triggered → Journal → Type 0
TriggersAt admits from port branch d triggered.Took after =
    (e : Env Message) × Finds admits from (at_port d port) e × (after ≡ adding d (entry.Took port branch e))
TriggersAt admits from port branch d triggered.Dropped after =
    (e : Env Message) × (top (at_port d port) ≡ Some e) × ¬ Satisfies admits from e
    × (after ≡ adding d (entry.Dropped port branch e))
TriggersAt admits from port branch d triggered.Nothing after = (top (at_port d port) ≡ None) × (after ≡ d)

-- the desk after a `check` with this result
abbrev pub checked_at : ℕ → ℕ → Journal → Option (Env Message) → Journal
checked_at port branch d (Some e) = adding d (entry.Found port branch e)
checked_at port branch d None = d

-- each port's queue stands for the history that the desk's log gives for it; the log names no other port; the clock is
-- that of the log; and in the log each sending's stamp is above all stamps before it
pub record IsKept (queues : List (QueueState Message)) (clock : ℕ) (log : List Entry) : Type 0 where
  pub stands : (port : ℕ) → port < length queues
      → StandsFor (slice_index_or queues port (state_of [])) (history_of port log)
  pub within : All (IsWithin (length queues)) log
  pub time : clock ≡ clock_of log
  pub clocked : IsClocked log
