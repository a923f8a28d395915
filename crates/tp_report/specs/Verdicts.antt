-- The verdicts of a run (ES 201 873-1, 24.1, 24.2).
use Rattle.std.specs.Prelude.{Bool, true, false, List, [], ◌∷◌, map, if◌then◌else◌}
use Rattle.std.specs.List.{list_any, filter_map}
use Rattle.std.specs.Prelude.{Option, Some, None}
use Rattle.tp_value.specs.declared.verdict.Verdict.{Verdict}
use Rattle.tp_value.specs.declared.verdict.Verdict.TheVariants as verdict
use Rattle.tp_value.specs.Verdicts.{worse}
use Rattle.tp_inbox.specs.declared.entry.Entry.{Entry}
use Rattle.tp_inbox.specs.declared.entry.Entry.TheVariants as entry
use Rattle.tp_inbox.specs.declared.ending.End.{End}
use Rattle.tp_inbox.specs.declared.ending.End.TheVariants as end
use Rattle.tp_report.specs.declared.report.CompReport.{CompReport}

-- the worst of these, or `none` if there are none
abbrev pub worst : List Verdict → Verdict
worst [] = verdict.None
worst (v ∷ vs) = worse v (worst vs)

-- the verdict that an entry sets
abbrev pub verdict_set : Entry → Option Verdict
verdict_set (entry.Verdict v) = Some v
verdict_set _ = None

abbrev pub is_failure : Entry → Bool
is_failure (entry.Failed fault) = true
is_failure _ = false

-- the local verdict of a component: `error` if its behaviour failed, else the worst that it has set
unfoldable pub local_verdict : List Entry → Verdict
local_verdict k = if list_any is_failure k then verdict.Error else worst (filter_map verdict_set k)

abbrev pub is_waiting : End → Bool
is_waiting end.Waiting = true
is_waiting _ = false

-- the overall verdict: `error` if a behaviour waits in the end, else the worst of the local ones
unfoldable pub overall_verdict : List End → List Verdict → Verdict
overall_verdict ends locals = if list_any is_waiting ends then verdict.Error else worst locals

-- how the behaviours of these components ended
abbrev pub endings : List CompReport → List End
endings components = map (λ (x : CompReport). x.ending) components

-- their local verdicts
abbrev pub locals : List CompReport → List Verdict
locals components = map (λ (x : CompReport). x.verdict) components
