-- The outcome of a mode: the line that it prints for a fault, and the status.
use Rattle.std.specs.Prelude.{◌≡◌, ℕ, ◌⊎◌, Option, List, [], ◌++◌, codes, IfSome}
use Rattle.std.specs.Fmt.{decimal}
use Rattle.tp_common.specs.declared.watched.Watched.{Watched}
use Rattle.tp_common.specs.Watching.{HasFailed, reader_left}
use Rattle.tp_common.specs.declared.refusal.Refusal.{Refusal}
use Rattle.tp_common.specs.declared.refusal.Refusal.TheVariants as refusal
use Rattle.tp_common.specs.Label.{label}
use Rattle.tp_port.specs.declared.replay.QueueFault.{QueueFault}
use Rattle.tp_port.specs.declared.replay.QueueFault.TheVariants as queue_fault
use Rattle.tp_port.specs.Faults.{HasFault, IsAnswerTo}

-- the number and the name of a refusal
abbrev pub label_text : Refusal → List ℕ
label_text r = decimal (label r).0 ++ codes " " ++ (label r).1

abbrev pub refused_text : Refusal → ℕ → List ℕ
refused_text r line = codes "refused " ++ label_text r ++ codes " line " ++ decimal line ++ codes "\n"

abbrev pub unread_text : List ℕ
unread_text = codes "refused " ++ label_text refusal.Read ++ codes "\n"

abbrev pub memory_text : List ℕ
memory_text = codes "fault " ++ label_text refusal.Memory ++ codes "\n"

-- the line for a fault of mode queue
abbrev pub fault_text : QueueFault → List ℕ
fault_text (queue_fault.BadLine line) = refused_text refusal.BadLine line
fault_text queue_fault.Read = unread_text
fault_text queue_fault.Write = []
fault_text queue_fault.Limit = refused_text refusal.Limit 0
fault_text queue_fault.Memory = memory_text

-- the status of a fault of mode queue: 2 if the text was refused, 3 if the text isn't the cause
abbrev pub fault_status : QueueFault → ℕ
fault_status (queue_fault.BadLine line) = 2
fault_status queue_fault.Read = 2
fault_status queue_fault.Write = 3
fault_status queue_fault.Limit = 2
fault_status queue_fault.Memory = 3

-- the fault has a line, unless it is a failed write
abbrev pub HasLine : QueueFault → Type 0
HasLine queue_fault.Write = ⊥
HasLine _ = Unit {0}

-- the line and the status of a fault of the text that the reader had; the fault is `Read` only if the reader has failed
pub record IsQueueRefused {R : Type 0} (remaining : R → Option (List ℕ)) (old new : Watched R) (text : List ℕ) (status : ℕ)
    : Type 0 where
  pub fault : QueueFault
  pub is_told : HasLine fault
  pub found : HasFault (reader_left remaining old) (reader_left remaining new) fault
  pub unread : fault ≡ queue_fault.Read → HasFailed new
  pub code : status ≡ fault_status fault
  pub line : text ≡ fault_text fault

-- what mode queue may print: the answers to the text that the reader had, with status 0, or the line of its fault
abbrev pub IsQueueAnswer : {R : Type 0} → (R → Option (List ℕ)) → Watched R → Watched R → List ℕ → ℕ → Type 0
IsQueueAnswer remaining old new text status =
    ((status ≡ 0) × IfSome (reader_left remaining old) (λ file. IsAnswerTo file text)) ⊎ IsQueueRefused remaining old new text status
