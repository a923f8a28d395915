-- Why a run has no report.
use Rattle.std.specs.Prelude.{List, Result, Ok, Err, IfErr}
use Rattle.tp_play.specs.TestCases.{Made}
use Rattle.tp_report.specs.declared.report.Report.{Report}
use Rattle.tp_exec.specs.declared.ended.EndedComponent.{EndedComponent}
use Rattle.tp_exec.specs.declared.fault.RunFault.{RunFault}
use Rattle.tp_exec.specs.declared.fault.RunFault.TheVariants as run_fault
use Rattle.tp_exec.specs.Faults.{IsThreadFault}
use Rattle.tp_exec.specs.Reporting.{IsRefusal, IsRunFault}
use Rattle.tp_exec.specs.Settlings.{IsOfARun}

-- threads don't say that a behaviour waits although one of its branches is open, or that no order gives the
-- histories
pub by_threads : (made : Made) (fault : RunFault) → IsThreadFault fault → IsRunFault made fault
by_threads made run_fault.NoThread h = tt
by_threads made run_fault.Memory h = tt
by_threads made run_fault.Restless h = absurd h
by_threads made run_fault.NoOrder h = absurd h

-- and where it is said, it is so of what the run came to
of_a_run : (made : Made) (ended : List EndedComponent) → IsOfARun made ended → (fault : RunFault) → IsRefusal ended fault → IsRunFault made fault
of_a_run made ended run run_fault.NoThread h = absurd h
of_a_run made ended run run_fault.Memory h = tt
of_a_run made ended run run_fault.Restless h = (ended, run, h)
of_a_run made ended run run_fault.NoOrder h = (ended, run, h.0, h.1)

pub no_report : (made : Made) (ended : List EndedComponent) → IsOfARun made ended → (result : Result Report RunFault) → IfErr result (IsRefusal ended)
    → IfErr result (IsRunFault made)
no_report made ended run (Ok report) h = tt
no_report made ended run (Err fault) h = of_a_run made ended run fault h
