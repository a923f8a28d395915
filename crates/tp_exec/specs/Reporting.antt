-- What a report says about the end of a run, and why there is no report.
use Rattle.std.specs.Prelude.{◌≡◌, ◌+◌, ℕ, zero, suc, Option, Some, None, List, All, map, slice_get, string_bytes}
use Rattle.tp_config.specs.Setup.{Setup, names_of_components}
use Rattle.tp_inbox.specs.declared.entry.Entry.{Entry}
use Rattle.tp_play.specs.Behaviours.{Behaviour}
use Rattle.tp_play.specs.TestCases.{Made, behaviour_at}
use Rattle.tp_inbox.specs.declared.ending.End.{End}
use Rattle.tp_inbox.specs.declared.ending.End.TheVariants as end
use Rattle.tp_report.specs.declared.report.CompReport.{CompReport}
use Rattle.tp_report.specs.Verdicts.{local_verdict}
use Rattle.tp_behaviour.specs.declared.outcome.Outcome.{Outcome}
use Rattle.tp_behaviour.specs.declared.outcome.Outcome.TheVariants as outcome
use Rattle.tp_behaviour.specs.Choices.{NoneOpen}
use Rattle.tp_exec.specs.declared.ended.EndedComponent.{EndedComponent}
use Rattle.tp_exec.specs.declared.fault.RunFault.{RunFault}
use Rattle.tp_exec.specs.declared.fault.RunFault.TheVariants as run_fault
use Rattle.tp_exec.specs.OneOrder.{HasOneOrder}
use Rattle.tp_exec.specs.Settlings.{IsOfARun, IsSoundJournal}

-- 1 if the component has a behaviour, 0 if it has none
abbrev pub one_with : Option Behaviour → ℕ
one_with (Some d) = 1
one_with None = 0

-- how many of the first n components have a behaviour
abbrev pub living_below : Made → ℕ → ℕ
living_below made zero = 0
living_below made (suc n) = living_below made n + one_with (behaviour_at made n)

-- if a behaviour with this outcome waits, none of its branches is open in this history
abbrev pub IsRest : List Entry → Outcome → Type 0
IsRest k (outcome.Waiting guards) = NoneOpen k guards.items
IsRest k _ = Unit {0}

-- none of the branches at which the component waits is open in its final queues
abbrev pub IsAtRest : EndedComponent → Type 0
IsAtRest e = IsRest e.desk.log e.outcome

-- how a behaviour ended, for its report
abbrev pub end_as : Outcome → End
end_as outcome.Done = end.Done
end_as (outcome.Error fault) = end.Error fault
end_as (outcome.Waiting guards) = end.Waiting

-- this is reported of the component: its name, its ports and its history, its end, its verdict, and the number of
-- messages on each route into it
pub record IsReportedAs (s : Setup) (e : EndedComponent) (x : CompReport) : Type 0 where
  pub name : slice_get (names_of_components s) e.desk.comp.0 ≡ Some (string_bytes x.name)
  pub desk : x.desk ≡ e.desk
  pub ending : x.ending ≡ end_as e.outcome
  pub verdict : x.verdict ≡ local_verdict e.desk.log
  pub counts : x.counts.items ≡ e.counts.items
  pub sound : IsSoundJournal e.desk

-- no one order of all that the components did gives their histories
abbrev pub IsWithoutOrder : List EndedComponent → Type 0
IsWithoutOrder ended = ¬ HasOneOrder (map (λ (e : EndedComponent). e.desk.log) ended)

-- why there is no report of a run that ended in this way: a behaviour waits although one of its branches is open; or
-- none does, and memory was refused, or no one order gives the histories
abbrev pub IsRefusal : List EndedComponent → RunFault → Type 0
IsRefusal ended run_fault.NoThread = ⊥
IsRefusal ended run_fault.Memory = All IsAtRest ended
IsRefusal ended run_fault.Restless = ¬ All IsAtRest ended
IsRefusal ended run_fault.NoOrder = All IsAtRest ended × IsWithoutOrder ended

-- there are components that a run of the test case may have ended with, by all that is proved of a run, and one of
-- their behaviours waits although one of its branches is open
abbrev pub IsRestless : Made → Type 0
IsRestless made = (ended : List EndedComponent) × IsOfARun made ended × (¬ All IsAtRest ended)

-- there are components that a run of the test case may have ended with, by all that is proved of a run; none of their
-- behaviours waits although one of its branches is open, and no one order gives their histories
abbrev pub IsDisordered : Made → Type 0
IsDisordered made = (ended : List EndedComponent) × IsOfARun made ended × All IsAtRest ended × IsWithoutOrder ended

-- why a run of the test case has no report: `Restless` only if a run may have ended with a behaviour that waits
-- although one of its branches is open, and `NoOrder` only if a run may have ended with histories that no one order
-- gives
abbrev pub IsRunFault : Made → RunFault → Type 0
IsRunFault made run_fault.NoThread = Unit {0}
IsRunFault made run_fault.Memory = Unit {0}
IsRunFault made run_fault.Restless = IsRestless made
IsRunFault made run_fault.NoOrder = IsDisordered made
