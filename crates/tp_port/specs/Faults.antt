-- The answers to a queue file, and when each fault is returned.
use Rattle.std.specs.Prelude.{◌≡◌, ℕ, ◌<◌, ◌≤◌, ◌⊎◌, Option, List, length, All, IfSome}
use Rattle.std.specs.Io.KnownBytes.{Consumes}
use Rattle.tp_common.specs.declared.text.ReadFault.{ReadFault}
use Rattle.tp_common.specs.declared.text.ReadFault.TheVariants as read_fault
use Rattle.tp_common.specs.Cutting.{lines_of}
use Rattle.tp_port.specs.declared.replay.QueueFault.{QueueFault}
use Rattle.tp_port.specs.declared.replay.QueueFault.TheVariants as queue_fault
use Rattle.tp_port.specs.QueueLine.{QueueLine, Says, IsGood, IsFirstBad}
use Rattle.tp_common.specs.Reading.{IsCapacity}
use Rattle.tp_common.specs.declared.watched.Watched.{Watched}
use Rattle.tp_common.specs.Watching.{Writes}
use Rattle.tp_port.specs.Replay.{queue_text}

abbrev pub fault_of : ReadFault → QueueFault
fault_of read_fault.Read = queue_fault.Read
fault_of read_fault.Limit = queue_fault.Limit
fault_of read_fault.Memory = queue_fault.Memory

-- these are the answers to the lines of the text
abbrev pub IsAnswerTo : List ℕ → List ℕ → Type 0
IsAnswerTo text answer = (lines : List QueueLine) × Says text lines × (answer ≡ queue_text lines)

-- the answers to the text are written, if the text is known; or a front of them is, and the writer has failed
pub record IsReplayed {W : Type 0} (contents : W → Option (List ℕ)) (known : Option (List ℕ)) (old new : Watched W) : Type 0 where
  pub answer : List ℕ
  pub is : IfSome known (λ text. IsAnswerTo text answer)
  pub written : Writes contents old new answer

-- the refusal of a text within the limit: its first bad line, and out of memory only if no line is bad
abbrev pub IsRefusedFor : List ℕ → QueueFault → Type 0
IsRefusedFor text (queue_fault.BadLine n) = IsFirstBad (lines_of text) n
IsRefusedFor text queue_fault.Memory = All IsGood (lines_of text)
IsRefusedFor text _ = ⊥

-- the fault of a text in memory: the limit comes first, then the first bad line, then out of memory, and then a failed
-- write
abbrev pub IsFaultOf : List ℕ → QueueFault → Type 0
IsFaultOf text (queue_fault.BadLine n) = IsFirstBad (lines_of text) n
IsFaultOf text queue_fault.Read = ⊥
IsFaultOf text queue_fault.Write = All IsGood (lines_of text)
IsFaultOf text queue_fault.Limit = 1048576 < length text
IsFaultOf text queue_fault.Memory = All IsGood (lines_of text)

-- the fault of a text that is read first, if so many bytes of it were read: the reader may fail anywhere within the
-- limit, and memory may run out whenever the buffer for the text is full, whatever the text is
abbrev pub IsReadFaultOf : List ℕ → ℕ → QueueFault → Type 0
IsReadFaultOf text taken (queue_fault.BadLine n) = (length text ≤ 1048576) × IsFirstBad (lines_of text) n
IsReadFaultOf text taken queue_fault.Read = taken ≤ 1048576
IsReadFaultOf text taken queue_fault.Write = (length text ≤ 1048576) × All IsGood (lines_of text)
IsReadFaultOf text taken queue_fault.Limit = (1048576 < length text) × (taken ≡ 1048577)
IsReadFaultOf text taken queue_fault.Memory = (taken ≤ 1048576) × (IsCapacity taken ⊎ All IsGood (lines_of text))

-- the same for the text that the reader has, if that is known
abbrev pub HasFault : Option (List ℕ) → Option (List ℕ) → QueueFault → Type 0
HasFault old new fault =
    (bytes : List ℕ) × Consumes old new bytes × IfSome old (λ text. IsReadFaultOf text (length bytes) fault)
