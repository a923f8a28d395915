-- The text that is written for a run in an order.
use Rattle.std.specs.Prelude.{◌≡◌, ℕ, ◌⊎◌, ◌∷◌, ◌++◌, [], false, Option, List, codes, string_bytes}
use Rattle.tp_common.specs.declared.watched.Watched.{Watched}
use Rattle.tp_common.specs.Watching.{Writes}
use Rattle.tp_play.specs.TestCases.{Made}
use Rattle.tp_report.specs.declared.report.Report.{Report}
use Rattle.tp_report.specs.Reports.{report_text}
use Rattle.tp_exec.specs.declared.fault.RunFault.{RunFault}
use Rattle.tp_exec.specs.Delivery.{IsReportOf}
use Rattle.tp_exec.specs.Faults.{run_fault_text}
use Rattle.tp_exec.specs.OneOrder.{IsInOneOrder}
use Rattle.tp_exec.specs.CausalOrder.{NoCircle}
use Rattle.tp_exec.specs.Reporting.{IsRunFault}
use Rattle.tpr_ordered.specs.declared.orders.StepOrder.{StepOrder}

-- the text of a report of the test case: **delivery** holds for it, and one order of everything that the components did
-- gives it
pub record IsReportText (made : Made) (text : List ℕ) : Type 0 where
  pub report : Report
  pub delivery : IsReportOf made report
  pub one_order : IsInOneOrder report
  pub no_circle : NoCircle report
  pub is : text ≡ report_text made report

-- the line for a gate that gave up, or for the fault because of which a run of the test case has no report
abbrev pub IsFaultLine : Made → List ℕ → Type 0
IsFaultLine made text = (text ≡ codes "not held\n") ⊎ ((f : RunFault) × IsRunFault made f × (text ≡ run_fault_text f))

-- the text for a run of this test case
abbrev pub IsRunText : Made → List ℕ → Type 0
IsRunText made text = IsReportText made text ⊎ IsFaultLine made text

-- the text for an order: its line, the text for its run, and an empty line
pub record IsOrderText (made : Made) (order : StepOrder) (text : List ℕ) : Type 0 where
  pub run : List ℕ
  pub is_run : IsRunText made run
  pub is : text ≡ codes "order " ++ string_bytes order.line ++ codes "\n" ++ run ++ codes "\n"

-- the text for these orders, one after the other
pub data AreOrderTexts (made : Made) : List StepOrder → List ℕ → Type 0 where
  none : AreOrderTexts made [] []
  one_more : (orders : List StepOrder) (order : StepOrder) (before here : List ℕ) → AreOrderTexts made orders before
      → IsOrderText made order here → AreOrderTexts made (orders ++ order ∷ []) (before ++ here)

-- the text for these orders is written; or a front of the text for the first of them, and the writer has failed
pub record AreWritten {W : Type 0} (contents : W → Option (List ℕ)) (made : Made) (orders : List StepOrder) (old new : Watched W)
    : Type 0 where
  pub first : List StepOrder
  pub others : List StepOrder
  pub are : orders ≡ first ++ others
  pub text : List ℕ
  pub is : AreOrderTexts made first text
  pub written : Writes contents old new text
  pub all : new.failed ≡ false → others ≡ []
