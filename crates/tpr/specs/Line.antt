-- The command line: what the words after the program's name ask for.
use Rattle.std.specs.Prelude.{◌≡◌, ℕ, Option, List, ◌∷◌, codes}
use Rattle.std.specs.Option.{option_to_list}
use Rattle.tpr.specs.declared.line.Mode.{Mode}
use Rattle.tpr.specs.declared.line.Mode.TheVariants as mode

abbrev pub mode_text : Mode → List ℕ
mode_text mode.Queue = codes "queue"
mode_text mode.Check = codes "check"
mode_text mode.Run = codes "run"
mode_text mode.Trace = codes "trace"
mode_text mode.Judge = codes "judge"
mode_text mode.Verdicts = codes "verdicts"

-- the words are the mode's, and then the FILE, if one is given
abbrev pub Asks : List (List ℕ) → Mode → Option (List ℕ) → Type 0
Asks words mode file = words ≡ mode_text mode ∷ option_to_list file
