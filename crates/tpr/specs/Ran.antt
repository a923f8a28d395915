-- The outcome of the modes run and trace: the text that they print for a test case, and the status.
use Rattle.std.specs.Prelude.{◌≡◌, ℕ, ◌⊎◌, Option, List, IfSome}
use Rattle.tp_common.specs.declared.watched.Watched.{Watched}
use Rattle.tp_common.specs.Watching.{reader_left}
use Rattle.tp_play.specs.TestCases.{Made}
use Rattle.tp_report.specs.declared.report.Report.{Report}
use Rattle.tp_report.specs.declared.telling.Telling.{Telling}
use Rattle.tp_report.specs.declared.telling.Telling.TheVariants as telling
use Rattle.tp_report.specs.Reports.{told_text}
use Rattle.tp_exec.specs.declared.fault.RunFault.{RunFault}
use Rattle.tp_exec.specs.Delivery.{IsReportOf}
use Rattle.tp_exec.specs.Faults.{run_fault_text}
use Rattle.tp_exec.specs.OneOrder.{IsInOneOrder}
use Rattle.tp_exec.specs.CausalOrder.{NoCircle}
use Rattle.tp_exec.specs.Reporting.{IsRunFault}
use Rattle.tp_script.specs.Scripts.{IsScriptOf}
use Rattle.tpr.specs.Checked.{IsNotAccepted}

-- the text in this form of a report of the test case, with status 0: **delivery** holds for the report, and one order
-- of everything that the components did gives it
pub record IsReported (how : Telling) (made : Made) (text : List ℕ) (status : ℕ) : Type 0 where
  pub report : Report
  pub delivery : IsReportOf made report
  pub one_order : IsInOneOrder report
  pub no_circle : NoCircle report
  pub code : status ≡ 0
  pub said : text ≡ told_text how made report

-- the line of a fault because of which a run of the test case has no report, with status 3
pub record IsNotReported (made : Made) (text : List ℕ) (status : ℕ) : Type 0 where
  pub fault : RunFault
  pub why : IsRunFault made fault
  pub code : status ≡ 3
  pub line : text ≡ run_fault_text fault

-- what may be printed for a run of this test case
abbrev pub IsRunOf : Telling → Made → List ℕ → ℕ → Type 0
IsRunOf how made text status = IsReported how made text status ⊎ IsNotReported made text status

-- what may be printed for the text that the reader had: the outcome of a run of its test case, or the line of its fault
abbrev pub IsAnswerBy : {R : Type 0} → Telling → (R → Option (List ℕ)) → Watched R → Watched R → List ℕ → ℕ → Type 0
IsAnswerBy how remaining old new text status =
    ((made : Made) × IfSome (reader_left remaining old) (λ script. IsScriptOf script made) × IsRunOf how made text status)
    ⊎ IsNotAccepted remaining old new text status

-- mode run prints a report as its text
abbrev pub IsRunAnswer : {R : Type 0} → (R → Option (List ℕ)) → Watched R → Watched R → List ℕ → ℕ → Type 0
IsRunAnswer = IsAnswerBy telling.Report

-- mode trace prints it as its trace
abbrev pub IsTraceAnswer : {R : Type 0} → (R → Option (List ℕ)) → Watched R → Watched R → List ℕ → ℕ → Type 0
IsTraceAnswer = IsAnswerBy telling.Trace
