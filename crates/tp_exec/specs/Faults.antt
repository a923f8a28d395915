-- How the fault of a run is reported.
use Rattle.std.specs.Prelude.{ℕ, ◌++◌, List, codes}
use Rattle.std.specs.Fmt.{decimal}
use Rattle.tp_common.specs.declared.refusal.Refusal.{Refusal}
use Rattle.tp_common.specs.declared.refusal.Refusal.TheVariants as refusal
use Rattle.tp_common.specs.Label.{label}
use Rattle.tp_exec.specs.declared.fault.RunFault.{RunFault}
use Rattle.tp_exec.specs.declared.fault.RunFault.TheVariants as run_fault

-- the number and the name of the fault are those of this refusal
abbrev pub run_refusal : RunFault → Refusal
run_refusal run_fault.NoThread = refusal.NoThread
run_refusal run_fault.Memory = refusal.Memory
run_refusal run_fault.Restless = refusal.Restless
run_refusal run_fault.NoOrder = refusal.NoOrder

-- the line of the fault
abbrev pub run_fault_text : RunFault → List ℕ
run_fault_text f =
    codes "fault " ++ decimal (label (run_refusal f)).0 ++ codes " " ++ (label (run_refusal f)).1 ++ codes "\n"

-- the threads of a run can return this fault: only after all messages have arrived is it known whether a behaviour
-- waits at an open branch, and whether one order gives the histories
abbrev pub IsThreadFault : RunFault → Type 0
IsThreadFault run_fault.NoThread = Unit {0}
IsThreadFault run_fault.Memory = Unit {0}
IsThreadFault run_fault.Restless = ⊥
IsThreadFault run_fault.NoOrder = ⊥
