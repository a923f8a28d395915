-- What the lines of a trace say, and which lines are a trace.
use Rattle.std.specs.Prelude.{◌≡◌, ℕ, ◌+◌, ◌-◌, ◌<◌, Bool, true, false, Option, Some, None, List, [], ◌∷◌, take}
use Rattle.std.specs.Prelude.{position, slice_get, All, fold, if◌then◌else◌, Contains, map}
use Rattle.std.specs.List.{AllZip, before_first, after_first}
use Rattle.std.specs.Str.{bytes_eq}
use Rattle.std.specs.Str.Parse.{digits_value}
use Rattle.tp_common.specs.Cutting.{is_space, lacks, lines_of}
use Rattle.tp_common.specs.declared.operation.PortOperation.TheVariants as operation
use Rattle.tp_judge.specs.declared.referee.line.MessageVerb.{MessageVerb}
use Rattle.tp_judge.specs.declared.referee.line.MessageVerb.TheVariants as fate
use Rattle.tp_judge.specs.declared.referee.line.Remark.TheVariants as remark
use Rattle.tp_judge.specs.declared.referee.line.Verb.{Verb}
use Rattle.tp_judge.specs.declared.referee.line.Verb.TheVariants as verb
use Rattle.tp_judge.specs.declared.referee.form.TracePosition.{TracePosition}
use Rattle.tp_judge.specs.declared.referee.form.TracePosition.TheVariants as place
use Rattle.tp_judge.specs.declared.referee.line.MessageWords.{MessageWords}
use Rattle.tp_judge.specs.declared.referee.line.Line.{Line}
use Rattle.tp_judge.specs.declared.referee.line.Line.TheVariants as line
use Rattle.tp_judge.specs.LineTexts.{Letter, Told, begins, passed, operated, otherwise, remarked, ended, resulted}
use Rattle.tp_judge.specs.LineTexts.{Spells}
use Rattle.tp_judge.specs.LineTexts.{Says, verb_text}

abbrev pub letter_of : MessageWords → Letter
letter_of m = record { component = m.component.now; port = m.port.now; number = m.number; text = m.text.now }

-- what a line says, wherever its words are in memory
abbrev pub told_of : Line → Told
told_of (line.Component name) = begins name.now
told_of (line.Message fate m) = passed fate (letter_of m)
told_of (line.Operation operation port) = operated operation port.now
told_of line.Else = otherwise
told_of (line.Remark remark word) = remarked remark word.now
told_of (line.End words) = ended words.now
told_of (line.Result word) = resulted word.now

-- the bytes before the last `.`
abbrev pub before_dot : List ℕ → List ℕ
before_dot [] = []
before_dot (b ∷ bs) = if lacks 46 bs then [] else b ∷ before_dot bs

-- the bytes after the last `.`
abbrev pub after_dot : List ℕ → List ℕ
after_dot [] = []
after_dot (b ∷ bs) = if lacks 46 bs then bs else after_dot bs

-- the verbs, and the one that a word is
abbrev pub verbs : List Verb
verbs =
    verb.Component
    ∷ verb.Message fate.Sent ∷ verb.Message fate.Came ∷ verb.Message fate.Took
    ∷ verb.Message fate.Found ∷ verb.Message fate.Dropped ∷ verb.Message fate.Left
    ∷ verb.Operation operation.Start ∷ verb.Operation operation.Stop
    ∷ verb.Operation operation.Halt ∷ verb.Operation operation.Clear
    ∷ verb.Else
    ∷ verb.Remark remark.Set ∷ verb.Remark remark.Failed ∷ verb.Remark remark.Verdict
    ∷ verb.End ∷ verb.Result ∷ []

abbrev pub first_spelled : List ℕ → List Verb → Option Verb
first_spelled word [] = None
first_spelled word (v ∷ vs) = if bytes_eq word (verb_text v) then Some v else first_spelled word vs

-- the message after a verb, if there is one
abbrev pub letter_in : MessageVerb → List ℕ → Letter
letter_in fate.Sent rest =
    let place = before_first is_space rest in
    let more = after_first is_space rest in
    record {
      component = before_dot place;
      port = after_dot place;
      number = digits_value 10 (before_first is_space more);
      text = after_first is_space more;
    }
letter_in _ rest =
    let more = after_first is_space rest in
    let last = after_first is_space more in
    record {
      component = before_first is_space more;
      port = before_first is_space rest;
      number = digits_value 10 (before_first is_space last);
      text = after_first is_space last;
    }

-- what a verb says with the part of the line after it, if they say anything
abbrev pub told_by : Option Verb → List ℕ → Told
told_by (Some verb.Component) rest = begins rest
told_by (Some (verb.Message fate)) rest = passed fate (letter_in fate rest)
told_by (Some (verb.Operation operation)) rest = operated operation rest
told_by (Some (verb.Remark remark)) rest = remarked remark rest
told_by (Some verb.End) rest = ended rest
told_by (Some verb.Result) rest = resulted rest
told_by _ rest = otherwise

-- what a line says, if it says anything; otherwise the value of this definition doesn't matter
abbrev pub told_in : List ℕ → Told
told_in bytes = told_by (first_spelled (before_first is_space bytes) verbs) (after_first is_space bytes)

-- the names of the components that have a section, in order
abbrev pub names_of : List Told → List (List ℕ)
names_of [] = []
names_of (begins name ∷ tolds) = name ∷ names_of tolds
names_of (_ ∷ tolds) = names_of tolds

-- the number of a component's section, from 0
abbrev pub section_named : List (List ℕ) → List ℕ → Option ℕ
section_named names name = position (bytes_eq name) names

-- the place after a line
abbrev pub place_after : Told → TracePosition
place_after (passed fate.Left letter) = place.Left
place_after (resulted word) = place.Behind
place_after _ = place.Section

-- the place after these lines
abbrev pub place_behind : List Told → TracePosition
place_behind tolds = fold (λ _ told. place_after told) place.Front tolds

-- at the front a section begins or the result follows; in a section any line follows; after a `left` another `left`
-- follows, a section begins or the result follows; after the result nothing does
abbrev pub may_stand : TracePosition → Told → Bool
may_stand place.Front (begins name) = true
may_stand place.Front (resulted word) = true
may_stand place.Front _ = false
may_stand place.Section _ = true
may_stand place.Left (begins name) = true
may_stand place.Left (passed fate.Left letter) = true
may_stand place.Left (resulted word) = true
may_stand place.Left _ = false
may_stand place.Behind _ = false

-- if the line begins a section, its component had none before
abbrev pub IsNewName : List (List ℕ) → Told → Type 0
IsNewName names (begins name) = ¬ Contains names name
IsNewName names _ = Unit {0}

-- the line is allowed at this place, after lines that began the sections of these names
pub record MayStandAt (place : TracePosition) (names : List (List ℕ)) (told : Told) : Type 0 where
  pub fits : may_stand place told ≡ true
  pub new : IsNewName names told

-- the line is allowed after these
abbrev pub MayStand : List Told → Told → Type 0
MayStand before told = MayStandAt (place_behind before) (names_of before) told

-- each line is allowed after those before it
abbrev pub IsTrace : List Told → Type 0
IsTrace tolds = (k : ℕ) (told : Told) → slice_get tolds k ≡ Some told → MayStand (take k tolds) told

-- the text is a trace, and its lines say these
abbrev pub IsTraceOf : List ℕ → List Told → Type 0
IsTraceOf text tolds = Says text tolds × IsTrace tolds

-- a text says at most one list of lines
abbrev pub SaysOneAtMost : Type 0
SaysOneAtMost = (text : List ℕ) (these those : List Told) → Says text these → Says text those → these ≡ those

-- the line says something
abbrev pub TellsSomething : List ℕ → Type 0
TellsSomething line = (told : Told) × Spells line told

-- the lines and the names of the sections of a trace
pub record HoldsTrace (lines names : List (List ℕ)) : Type 0 where
  pub told : All TellsSomething lines
  pub trace : IsTrace (map told_in lines)
  pub named : names ≡ names_of (map told_in lines)

-- a section of a trace: its component, the number of the line where it begins, from 1, and what its lines say
pub record Section : Type 0 where
  pub name : List ℕ
  pub number : ℕ
  pub tolds : List Told

-- the lines before the next section or the result
abbrev pub section_part : List Told → List Told
section_part [] = []
section_part (begins name ∷ tolds) = []
section_part (resulted word ∷ tolds) = []
section_part (told ∷ tolds) = told ∷ section_part tolds

-- the sections of these lines, the first of which has this number
abbrev pub sections_from : ℕ → List Told → List Section
sections_from n [] = []
sections_from n (begins name ∷ tolds) =
    record { name = name; number = n; tolds = section_part tolds } ∷ sections_from (n + 1) tolds
sections_from n (_ ∷ tolds) = sections_from (n + 1) tolds

-- the sections of a trace, in order
abbrev pub sections_of : List Told → List Section
sections_of tolds = sections_from 1 tolds

-- the line of this number, from 1, is the first bad one: the lines before it are those of a trace, and it says nothing
-- that is allowed after them
pub record IsFirstBad (lines : List (List ℕ)) (n : ℕ) : Type 0 where
  pub some : 0 < n
  pub before : List Told
  pub told : AllZip Spells (take (n - 1) lines) before
  pub trace : IsTrace before
  pub line : List ℕ
  pub there : slice_get lines (n - 1) ≡ Some line
  pub bad : (told : Told) → Spells line told → MayStand before told → ⊥

-- if a line is the first bad one of a text, no text that begins with the same lines, up to and including that one, is a
-- trace
abbrev pub BadLinesStayBad : Type 0
BadLinesStayBad =
    (text other : List ℕ) (n : ℕ) (tolds : List Told) → IsFirstBad (lines_of text) n
    → take n (lines_of other) ≡ take n (lines_of text) → IsTraceOf other tolds → ⊥
