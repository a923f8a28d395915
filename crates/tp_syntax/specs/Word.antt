-- The reserved words.
use Rattle.std.specs.Prelude.{◌≡◌, ◌↔◌, ℕ, List, [], ◌∷◌, ◌==◌, filter, length, map, Option, Some, None, codes}
use Rattle.std.specs.Prelude.{if◌then◌else◌}
use Rattle.std.specs.Str.{bytes_eq}
use Rattle.tp_syntax.specs.declared.word.Word.{Word}
use Rattle.tp_syntax.specs.declared.word.Word.TheVariants as w

-- how a reserved word is spelled
abbrev pub word_spelling : Word → List ℕ
word_spelling w.Module = codes "module"
word_spelling w.Type = codes "type"
word_spelling w.Record = codes "record"
word_spelling w.Of = codes "of"
word_spelling w.Port = codes "port"
word_spelling w.Message = codes "message"
word_spelling w.Component = codes "component"
word_spelling w.In = codes "in"
word_spelling w.Out = codes "out"
word_spelling w.Inout = codes "inout"
word_spelling w.Function = codes "function"
word_spelling w.Testcase = codes "testcase"
word_spelling w.Runs = codes "runs"
word_spelling w.On = codes "on"
word_spelling w.System = codes "system"
word_spelling w.Var = codes "var"
word_spelling w.Create = codes "create"
word_spelling w.Connect = codes "connect"
word_spelling w.Map = codes "map"
word_spelling w.Mtc = codes "mtc"
word_spelling w.SelfWord = codes "self"
word_spelling w.Start = codes "start"
word_spelling w.Stop = codes "stop"
word_spelling w.Halt = codes "halt"
word_spelling w.Clear = codes "clear"
word_spelling w.Send = codes "send"
word_spelling w.Receive = codes "receive"
word_spelling w.Trigger = codes "trigger"
word_spelling w.Check = codes "check"
word_spelling w.To = codes "to"
word_spelling w.From = codes "from"
word_spelling w.Alt = codes "alt"
word_spelling w.Else = codes "else"
word_spelling w.For = codes "for"
word_spelling w.Setverdict = codes "setverdict"
word_spelling w.NoneWord = codes "none"
word_spelling w.Pass = codes "pass"
word_spelling w.Inconc = codes "inconc"
word_spelling w.Fail = codes "fail"
word_spelling w.Error = codes "error"
word_spelling w.All = codes "all"
word_spelling w.Done = codes "done"
word_spelling w.True = codes "true"
word_spelling w.False = codes "false"
word_spelling w.Integer = codes "integer"
word_spelling w.Boolean = codes "boolean"
word_spelling w.Charstring = codes "charstring"
word_spelling w.Complement = codes "complement"
word_spelling w.Pattern = codes "pattern"
word_spelling w.Infinity = codes "infinity"
word_spelling w.Value = codes "value"
word_spelling w.Sender = codes "sender"

-- all reserved words, by their numbers
abbrev pub words : List Word
words =
    w.Module ∷ w.Type ∷ w.Record ∷ w.Of ∷ w.Port ∷ w.Message ∷ w.Component ∷ w.In ∷ w.Out ∷
    w.Inout ∷ w.Function ∷ w.Testcase ∷ w.Runs ∷ w.On ∷ w.System ∷ w.Var ∷ w.Create ∷ w.Connect ∷
    w.Map ∷ w.Mtc ∷ w.SelfWord ∷ w.Start ∷ w.Stop ∷ w.Halt ∷ w.Clear ∷ w.Send ∷ w.Receive ∷
    w.Trigger ∷ w.Check ∷ w.To ∷ w.From ∷ w.Alt ∷ w.Else ∷ w.For ∷ w.Setverdict ∷ w.NoneWord ∷
    w.Pass ∷ w.Inconc ∷ w.Fail ∷ w.Error ∷ w.All ∷ w.Done ∷ w.True ∷ w.False ∷ w.Integer ∷
    w.Boolean ∷ w.Charstring ∷ w.Complement ∷ w.Pattern ∷ w.Infinity ∷ w.Value ∷ w.Sender ∷ []

-- the word of the first entry of a table with this spelling
abbrev pub first_spelled : List ℕ → List (List ℕ × Word) → Option Word
first_spelled bs [] = None
first_spelled bs (entry ∷ more) =
    if bytes_eq bs entry.0 then Some entry.1 else first_spelled bs more

-- the reserved words with their spellings
unfoldable pub reserved : List (List ℕ × Word)
reserved = map (λ word. (word_spelling word, word)) words

-- those of this length
unfoldable pub words_of_length : ℕ → List (List ℕ × Word)
words_of_length size = filter (λ entry. length entry.0 == size) reserved

-- the reserved word that the bytes spell, if they spell one
abbrev pub word_of : List ℕ → Option Word
word_of bs = first_spelled bs reserved

-- bytes spell a reserved word if and only if they are its spelling
abbrev pub WordsAreSpelled : Type 0
WordsAreSpelled = (bs : List ℕ) (word : Word) → (word_of bs ≡ Some word) ↔ (bs ≡ word_spelling word)
