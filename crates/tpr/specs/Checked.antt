-- The outcome of mode check: the text that it prints for a script, and the status.
use Rattle.std.specs.Prelude.{◌≡◌, ℕ, ◌≤◌, ◌⊎◌, Option, List, length, codes, IfSome}
use Rattle.std.specs.Io.KnownBytes.{Consumes}
use Rattle.tp_common.specs.Reading.{IsCapacity}
use Rattle.tp_common.specs.declared.watched.Watched.{Watched}
use Rattle.tp_common.specs.Watching.{HasFailed, reader_left}
use Rattle.tp_common.specs.declared.text.ReadFault.{ReadFault}
use Rattle.tp_common.specs.declared.text.ReadFault.TheVariants as read_fault
use Rattle.tp_syntax.specs.declared.script_fault.TextRule.TheVariants as text_rule
use Rattle.tp_play.specs.TestCases.{Made}
use Rattle.tp_script.specs.declared.fault.ScriptRule.TheVariants as script_rule
use Rattle.tp_script.specs.declared.fault.TestCaseFault.{TestCaseFault}
use Rattle.tp_script.specs.declared.fault.TestCaseFault.TheVariants as test_case_fault
use Rattle.tp_script.specs.Scripts.{IsScriptFaultOf, IsScriptOf}
use Rattle.tp_script.specs.Told.{script_refusal}
use Rattle.tpr.specs.declared.checking.CheckFault.{CheckFault}
use Rattle.tpr.specs.declared.checking.CheckFault.TheVariants as check_fault
use Rattle.tpr.specs.FaultLines.{memory_text, refused_text, unread_text}

-- the fault of mode check for a fault of reading; that of a text that is too long is at line 0
abbrev pub check_fault_of : ReadFault → CheckFault
check_fault_of read_fault.Read = check_fault.Read
check_fault_of read_fault.Limit =
    check_fault.Script (test_case_fault.Refused (script_rule.Text text_rule.Limit) 0)
check_fault_of read_fault.Memory = check_fault.Script (test_case_fault.Memory (record {}))

abbrev pub script_fault_text : TestCaseFault → List ℕ
script_fault_text (test_case_fault.Refused rule line) = refused_text (script_refusal rule) line
script_fault_text (test_case_fault.Memory m) = memory_text

-- the line for a fault of mode check
abbrev pub check_fault_text : CheckFault → List ℕ
check_fault_text check_fault.Read = unread_text
check_fault_text (check_fault.Script f) = script_fault_text f

abbrev pub script_fault_status : TestCaseFault → ℕ
script_fault_status (test_case_fault.Refused rule line) = 2
script_fault_status (test_case_fault.Memory m) = 3

-- the status of a fault of mode check: 2 if the text was refused, 3 if the text isn't the cause
abbrev pub check_fault_status : CheckFault → ℕ
check_fault_status check_fault.Read = 2
check_fault_status (check_fault.Script f) = script_fault_status f

-- the line for a valid script
abbrev pub accepted_text : List ℕ
accepted_text = codes "accepted\n"

-- the text is valid: it is a script of a test case
abbrev pub IsRight : List ℕ → Type 0
IsRight text = (made : Made) × IsScriptOf text made

-- the fault of a text that is read first, if so many bytes of it were read, one more than the limit if it is too long:
-- memory may run out whenever the buffer for the text is full, whatever the text is, and after reading if the text
-- isn't too long
abbrev pub IsScriptFaultIn : List ℕ → ℕ → TestCaseFault → Type 0
IsScriptFaultIn text taken (test_case_fault.Refused rule line) =
    (taken ≤ 1048577) × IsScriptFaultOf text (test_case_fault.Refused rule line)
IsScriptFaultIn text taken (test_case_fault.Memory m) = (taken ≤ 1048576) × (IsCapacity taken ⊎ (length text ≤ 1048576))

-- the same for mode check, in which the reader may also fail, anywhere within the limit
abbrev pub IsCheckFaultOf : List ℕ → ℕ → CheckFault → Type 0
IsCheckFaultOf text taken check_fault.Read = taken ≤ 1048576
IsCheckFaultOf text taken (check_fault.Script f) = IsScriptFaultIn text taken f

-- the same for the text that the reader has, if that is known
abbrev pub HasCheckFault : Option (List ℕ) → Option (List ℕ) → CheckFault → Type 0
HasCheckFault old new fault =
    (bytes : List ℕ) × Consumes old new bytes × IfSome old (λ text. IsCheckFaultOf text (length bytes) fault)

-- the line and the status of a fault of the text that the reader had; the fault is `Read` only if the reader has failed
pub record IsNotAccepted {R : Type 0} (remaining : R → Option (List ℕ)) (old new : Watched R) (text : List ℕ) (status : ℕ)
    : Type 0 where
  pub fault : CheckFault
  pub found : HasCheckFault (reader_left remaining old) (reader_left remaining new) fault
  pub unread : fault ≡ check_fault.Read → HasFailed new
  pub code : status ≡ check_fault_status fault
  pub line : text ≡ check_fault_text fault

-- what mode check may print: `accepted`, with status 0, for a valid text, or the line of its fault
abbrev pub IsCheckAnswer : {R : Type 0} → (R → Option (List ℕ)) → Watched R → Watched R → List ℕ → ℕ → Type 0
IsCheckAnswer remaining old new text status =
    ((status ≡ 0) × IfSome (reader_left remaining old) IsRight × (text ≡ accepted_text)) ⊎ IsNotAccepted remaining old new text status
