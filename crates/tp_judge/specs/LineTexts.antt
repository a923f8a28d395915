-- The lines of a trace: what each one says, and how it is spelled.
use Rattle.std.specs.Prelude.{◌≡◌, ℕ, ◌<◌, ◌^◌, ◌==◌, ◌&&◌, ◌⊎◌, Bool, true, not, Option, Some, None, List, ◌∷◌, ◌++◌}
use Rattle.std.specs.Prelude.{length, codes}
use Rattle.std.specs.List.{list_all, AllZip}
use Rattle.std.specs.Char.{is_ascii_graphic}
use Rattle.std.specs.Fmt.{decimal}
use Rattle.tp_common.specs.Cutting.{after_space}
-- for whoever cites what a text says
use Rattle.tp_common.specs.Cutting.{lines_of}
use Rattle.tp_common.specs.declared.operation.PortOperation.{PortOperation}
use Rattle.tp_common.specs.declared.operation.PortOperation.TheVariants as operation
use Rattle.tp_judge.specs.declared.referee.line.MessageVerb.{MessageVerb}
use Rattle.tp_judge.specs.declared.referee.line.MessageVerb.TheVariants as fate
use Rattle.tp_judge.specs.declared.referee.line.Remark.{Remark}
use Rattle.tp_judge.specs.declared.referee.line.Remark.TheVariants as remark
use Rattle.tp_judge.specs.declared.referee.line.Verb.{Verb}
use Rattle.tp_judge.specs.declared.referee.line.Verb.TheVariants as verb

-- a message: the component at its other end, the port that it is for, its number on its route, and its text
pub record Letter : Type 0 where
  pub component : List ℕ
  pub port : List ℕ
  pub number : ℕ
  pub text : List ℕ

-- what a line says
pub data Told : Type 0 where
  begins : List ℕ → Told
  passed : MessageVerb → Letter → Told
  operated : PortOperation → List ℕ → Told
  otherwise : Told
  remarked : Remark → List ℕ → Told
  ended : List ℕ → Told
  resulted : List ℕ → Told

-- a byte of a port's name: no `.`
abbrev pub is_port_byte : ℕ → Bool
is_port_byte b = is_ascii_graphic b && not (b == 46)

-- a component's name: bytes 33 to 126, one or more
pub record IsComponentName (word : List ℕ) : Type 0 where
  pub some : 0 < length word
  pub graphic : list_all is_ascii_graphic word ≡ true

-- a port's name: the same without a `.`
pub record IsPortName (word : List ℕ) : Type 0 where
  pub some : 0 < length word
  pub undotted : list_all is_port_byte word ≡ true

-- a verdict (24.1)
abbrev pub IsVerdictWord : List ℕ → Type 0
IsVerdictWord word =
    (word ≡ codes "none") ⊎ ((word ≡ codes "pass") ⊎ ((word ≡ codes "inconc")
    ⊎ ((word ≡ codes "fail") ⊎ (word ≡ codes "error"))))

-- a number in decimal, below 2^63
abbrev pub IsTraceNumber : List ℕ → Type 0
IsTraceNumber word = (n : ℕ) × (n < 2 ^ 63) × (word ≡ decimal n)

-- the names of a message are valid, its number is below 2^63, and its text has at least one byte
pub record IsLetter (letter : Letter) : Type 0 where
  pub component : IsComponentName letter.component
  pub port : IsPortName letter.port
  pub number : letter.number < 2 ^ 63
  pub text : 0 < length letter.text

abbrev pub IsRemark : Remark → List ℕ → Type 0
IsRemark remark.Set word = IsVerdictWord word
IsRemark remark.Failed word = IsTraceNumber word
IsRemark remark.Verdict word = IsVerdictWord word

-- a line can say this: each name, number and verdict is valid
abbrev pub IsTold : Told → Type 0
IsTold (begins name) = IsComponentName name
IsTold (passed fate letter) = IsLetter letter
IsTold (operated operation port) = IsPortName port
IsTold otherwise = Unit {0}
IsTold (remarked remark word) = IsRemark remark word
IsTold (ended words) = 0 < length words
IsTold (resulted word) = IsVerdictWord word

abbrev pub fate_text : MessageVerb → List ℕ
fate_text fate.Sent = codes "sent"
fate_text fate.Came = codes "came"
fate_text fate.Took = codes "took"
fate_text fate.Found = codes "found"
fate_text fate.Dropped = codes "dropped"
fate_text fate.Left = codes "left"

abbrev pub operation_text : PortOperation → List ℕ
operation_text operation.Start = codes "started"
operation_text operation.Stop = codes "stopped"
operation_text operation.Halt = codes "halted"
operation_text operation.Clear = codes "cleared"

abbrev pub remark_text : Remark → List ℕ
remark_text remark.Set = codes "set"
remark_text remark.Failed = codes "failed"
remark_text remark.Verdict = codes "verdict"

-- the first word of a line
abbrev pub verb_text : Verb → List ℕ
verb_text verb.Component = codes "component"
verb_text (verb.Message fate) = fate_text fate
verb_text (verb.Operation operation) = operation_text operation
verb_text verb.Else = codes "else"
verb_text (verb.Remark remark) = remark_text remark
verb_text verb.End = codes "end"
verb_text verb.Result = codes "result"

abbrev pub verb_of : Told → Verb
verb_of (begins name) = verb.Component
verb_of (passed fate letter) = verb.Message fate
verb_of (operated operation port) = verb.Operation operation
verb_of otherwise = verb.Else
verb_of (remarked remark word) = verb.Remark remark
verb_of (ended words) = verb.End
verb_of (resulted word) = verb.Result

-- a message's number and its text, with a space between them
abbrev pub contents : Letter → List ℕ
contents letter = decimal letter.number ++ (32 ∷ letter.text)

-- after `sent`, the receiving component and its port, with a `.` between them; after any other word, the port and the
-- sending component, with a space between them; then the number and the text
abbrev pub letter_text : MessageVerb → Letter → List ℕ
letter_text fate.Sent letter = (letter.component ++ (46 ∷ letter.port)) ++ (32 ∷ contents letter)
letter_text _ letter = letter.port ++ (32 ∷ (letter.component ++ (32 ∷ contents letter)))

-- the part of a line after its first word, if there is one
abbrev pub operands : Told → Option (List ℕ)
operands (begins name) = Some name
operands (passed fate letter) = Some (letter_text fate letter)
operands (operated operation port) = Some port
operands otherwise = None
operands (remarked remark word) = Some word
operands (ended words) = Some words
operands (resulted word) = Some word

abbrev pub spelling : Told → List ℕ
spelling told = verb_text (verb_of told) ++ after_space (operands told)

-- the line says this
abbrev pub Spells : List ℕ → Told → Type 0
Spells line told = (line ≡ spelling told) × IsTold told

-- the lines of the text say these, in order
abbrev pub Says : List ℕ → List Told → Type 0
Says text tolds = AllZip Spells (lines_of text) tolds
