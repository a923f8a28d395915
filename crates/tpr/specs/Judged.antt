-- The outcome of mode judge: the text that it prints for a trace, and the status.
use Rattle.std.specs.Prelude.{◌≡◌, ℕ, ◌≤◌, ◌⊎◌, Option, List, length, IfSome}
use Rattle.std.specs.Io.KnownBytes.{Consumes}
use Rattle.tp_common.specs.Reading.{IsCapacity}
use Rattle.tp_common.specs.declared.watched.Watched.{Watched}
use Rattle.tp_common.specs.Watching.{HasFailed, reader_left}
use Rattle.tp_common.specs.declared.text.ReadFault.{ReadFault}
use Rattle.tp_common.specs.declared.text.ReadFault.TheVariants as read_fault
use Rattle.tp_common.specs.declared.refusal.Refusal.TheVariants as refusal
use Rattle.tp_judge.specs.declared.referee.reading.TraceFault.{TraceFault}
use Rattle.tp_judge.specs.declared.referee.reading.TraceFault.TheVariants as trace_fault
use Rattle.tp_judge.specs.Faults.{IsFaultOf}
use Rattle.tp_judge.specs.declared.referee.ruling.Ruling.{Ruling}
use Rattle.tp_judge.specs.RulingTexts.{ruling_status, ruling_text}
use Rattle.tp_judge.specs.Rulings.{IsRulingOf}
use Rattle.tpr.specs.declared.judging.JudgeFault.{JudgeFault}
use Rattle.tpr.specs.declared.judging.JudgeFault.TheVariants as judge_fault
use Rattle.tpr.specs.FaultLines.{memory_text, refused_text, unread_text}

abbrev pub judge_fault_of : ReadFault → JudgeFault
judge_fault_of read_fault.Read = judge_fault.Read
judge_fault_of read_fault.Limit = judge_fault.Trace trace_fault.Limit
judge_fault_of read_fault.Memory = judge_fault.Trace trace_fault.Memory

-- the line for a fault of a trace; the fault of a text that is too long is at line 0
abbrev pub trace_fault_text : TraceFault → List ℕ
trace_fault_text (trace_fault.BadLine line) = refused_text refusal.BadLine line
trace_fault_text trace_fault.Limit = refused_text refusal.Limit 0
trace_fault_text trace_fault.Memory = memory_text

-- the line for a fault of mode judge
abbrev pub judge_fault_text : JudgeFault → List ℕ
judge_fault_text judge_fault.Read = unread_text
judge_fault_text (judge_fault.Trace f) = trace_fault_text f

abbrev pub trace_fault_status : TraceFault → ℕ
trace_fault_status (trace_fault.BadLine line) = 2
trace_fault_status trace_fault.Limit = 2
trace_fault_status trace_fault.Memory = 3

-- the status of a fault of mode judge: 2 if the text was refused, 3 if the text isn't the cause
abbrev pub judge_fault_status : JudgeFault → ℕ
judge_fault_status judge_fault.Read = 2
judge_fault_status (judge_fault.Trace f) = trace_fault_status f

-- the fault of a text that is read first, if so many bytes of it were read, one more than the limit if it is too long:
-- memory may run out whenever the buffer for the text is full, whatever the text is, and after reading if the text
-- isn't too long
abbrev pub IsTraceFaultIn : List ℕ → ℕ → TraceFault → Type 0
IsTraceFaultIn text taken (trace_fault.BadLine line) = (taken ≤ 268435456) × IsFaultOf text (trace_fault.BadLine line)
IsTraceFaultIn text taken trace_fault.Limit = (taken ≤ 268435457) × IsFaultOf text trace_fault.Limit
IsTraceFaultIn text taken trace_fault.Memory =
    (taken ≤ 268435456) × (IsCapacity taken ⊎ (length text ≤ 268435456))

-- the same for mode judge, in which the reader may also fail, anywhere within the limit
abbrev pub IsJudgeFaultOf : List ℕ → ℕ → JudgeFault → Type 0
IsJudgeFaultOf text taken judge_fault.Read = taken ≤ 268435456
IsJudgeFaultOf text taken (judge_fault.Trace f) = IsTraceFaultIn text taken f

-- the same for the text that the reader has, if that is known
abbrev pub HasJudgeFault : Option (List ℕ) → Option (List ℕ) → JudgeFault → Type 0
HasJudgeFault old new fault =
    (bytes : List ℕ) × Consumes old new bytes × IfSome old (λ text. IsJudgeFaultOf text (length bytes) fault)

-- the text of the ruling on the trace that the reader had, and its status
pub record IsJudged (known : Option (List ℕ)) (text : List ℕ) (status : ℕ) : Type 0 where
  pub ruling : Ruling
  pub judged : IfSome known (λ trace. IsRulingOf trace ruling)
  pub code : status ≡ ruling_status ruling
  pub said : text ≡ ruling_text ruling

-- the line and the status of a fault of the text that the reader had; the fault is `Read` only if the reader has failed
pub record IsNotJudged {R : Type 0} (remaining : R → Option (List ℕ)) (old new : Watched R) (text : List ℕ) (status : ℕ)
    : Type 0 where
  pub fault : JudgeFault
  pub found : HasJudgeFault (reader_left remaining old) (reader_left remaining new) fault
  pub unread : fault ≡ judge_fault.Read → HasFailed new
  pub code : status ≡ judge_fault_status fault
  pub line : text ≡ judge_fault_text fault

-- what mode judge may print: the ruling on the trace that the reader had, or the line of its fault
abbrev pub IsJudgeAnswer : {R : Type 0} → (R → Option (List ℕ)) → Watched R → Watched R → List ℕ → ℕ → Type 0
IsJudgeAnswer remaining old new text status = IsJudged (reader_left remaining old) text status ⊎ IsNotJudged remaining old new text status
