-- How the lines of a text are taken, and when each fault is returned.
use Rattle.std.specs.Prelude.{◌≡◌, ℕ, ◌<◌, ◌≤◌, Bool, true, false, List, [], ◌∷◌, ◌++◌, length}
use Rattle.tp_common.specs.Cutting.{lines_of}
use Rattle.tp_judge.specs.declared.referee.form.TracePosition.{TracePosition}
use Rattle.tp_judge.specs.declared.referee.reading.TraceFault.{TraceFault}
use Rattle.tp_judge.specs.declared.referee.reading.TraceFault.TheVariants as trace_fault
use Rattle.tp_judge.specs.LineTexts.{Told, Spells}
use Rattle.tp_judge.specs.Tree.{IsFirstBad, IsNewName, MayStandAt, names_of, place_after}

-- if the line begins a section, the name of the section is new and was noted; or it isn't new
abbrev pub Notes : List (List ℕ) → List (List ℕ) → Told → Bool → Type 0
Notes old new told true = IsNewName old told × (new ≡ old ++ names_of (told ∷ []))
Notes old new told false = ¬ IsNewName old told

-- the line says something that is allowed at this place, after lines that began the sections of the old names
pub record TakesPlace (line : List ℕ) (place : TracePosition) (old new : List (List ℕ)) (after : TracePosition) : Type 0 where
  pub told : Told
  pub spelled : Spells line told
  pub stands : MayStandAt place old told
  pub noted : new ≡ old ++ names_of (told ∷ [])
  pub behind : after ≡ place_after told

-- a text within the limit has this first bad line; or the text is beyond the limit; running out of memory says nothing
-- about the text
abbrev pub IsFaultOf : List ℕ → TraceFault → Type 0
IsFaultOf text (trace_fault.BadLine n) = (length text ≤ 268435456) × IsFirstBad (lines_of text) n
IsFaultOf text trace_fault.Limit = 268435456 < length text
IsFaultOf text trace_fault.Memory = Unit {0}
