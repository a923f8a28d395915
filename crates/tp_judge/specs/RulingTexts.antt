-- The text of a ruling on a trace, and the exit status.
use Rattle.std.specs.Prelude.{ℕ, List, ◌++◌, codes}
use Rattle.std.specs.List.{flat_map}
use Rattle.std.specs.Fmt.{decimal}
use Rattle.tp_judge.specs.declared.place.Rule.{Rule}
use Rattle.tp_judge.specs.declared.place.Rule.TheVariants as rule
use Rattle.tp_judge.specs.declared.place.UnlawfulPlace.{UnlawfulPlace}
use Rattle.tp_judge.specs.declared.one_run.OneRun.{OneRun}
use Rattle.tp_judge.specs.declared.one_run.OneRun.TheVariants as run
use Rattle.tp_judge.specs.declared.referee.ruling.Ruling.{Ruling}
use Rattle.tp_judge.specs.declared.referee.ruling.Ruling.TheVariants as ruling

abbrev pub rule_text : Rule → List ℕ
rule_text rule.Stopped = codes "Stopped"
rule_text rule.Behind = codes "Behind"
rule_text rule.NotTop = codes "NotTop"
rule_text rule.Left = codes "Left"
rule_text rule.Numbering = codes "Numbering"
rule_text rule.Lost = codes "Lost"
rule_text rule.Doubled = codes "Doubled"
rule_text rule.Invented = codes "Invented"
rule_text rule.Changed = codes "Changed"
rule_text rule.Reordered = codes "Reordered"
rule_text rule.Circle = codes "Circle"

-- the line that is printed for a place
abbrev pub place_text : UnlawfulPlace → List ℕ
place_text place = codes "unlawful " ++ rule_text place.rule ++ codes " line " ++ decimal place.line ++ codes "\n"

abbrev pub run_text : OneRun → List ℕ
run_text run.OneRun = codes "one run\n"
run_text (run.Delayed line) = codes "delayed line " ++ decimal line ++ codes "\n"

abbrev pub lawful_text : OneRun → List ℕ
lawful_text run = codes "lawful\n" ++ run_text run

abbrev pub ruling_text : Ruling → List ℕ
ruling_text (ruling.Lawful run) = lawful_text run
ruling_text (ruling.Unlawful places) = flat_map place_text places.items

abbrev pub ruling_status : Ruling → ℕ
ruling_status (ruling.Lawful run) = 0
ruling_status (ruling.Unlawful places) = 2
