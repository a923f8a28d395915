-- Numbers that distinguish words and symbols, and the characters of patterns.
use Rattle.std.specs.Prelude.{ℕ, Bool, not, ◌==◌, List, [], ◌∷◌}
use Rattle.std.specs.List.{list_any}
use Rattle.tp_syntax.specs.declared.word.Word.{Word}
use Rattle.tp_syntax.specs.declared.word.Word.TheVariants as w
use Rattle.tp_syntax.specs.declared.token.Symbol.{Symbol}
use Rattle.tp_syntax.specs.declared.token.Symbol.TheVariants as s

-- a number for each word
abbrev pub word_code : Word → ℕ
word_code w.Module = 0
word_code w.Type = 1
word_code w.Record = 2
word_code w.Of = 3
word_code w.Port = 4
word_code w.Message = 5
word_code w.Component = 6
word_code w.In = 7
word_code w.Out = 8
word_code w.Inout = 9
word_code w.Function = 10
word_code w.Testcase = 11
word_code w.Runs = 12
word_code w.On = 13
word_code w.System = 14
word_code w.Var = 15
word_code w.Create = 16
word_code w.Connect = 17
word_code w.Map = 18
word_code w.Mtc = 19
word_code w.SelfWord = 20
word_code w.Start = 21
word_code w.Stop = 22
word_code w.Halt = 23
word_code w.Clear = 24
word_code w.Send = 25
word_code w.Receive = 26
word_code w.Trigger = 27
word_code w.Check = 28
word_code w.To = 29
word_code w.From = 30
word_code w.Alt = 31
word_code w.Else = 32
word_code w.For = 33
word_code w.Setverdict = 34
word_code w.NoneWord = 35
word_code w.Pass = 36
word_code w.Inconc = 37
word_code w.Fail = 38
word_code w.Error = 39
word_code w.All = 40
word_code w.Done = 41
word_code w.True = 42
word_code w.False = 43
word_code w.Integer = 44
word_code w.Boolean = 45
word_code w.Charstring = 46
word_code w.Complement = 47
word_code w.Pattern = 48
word_code w.Infinity = 49
word_code w.Value = 50
word_code w.Sender = 51

-- a number for each symbol
abbrev pub symbol_code : Symbol → ℕ
symbol_code s.LeftBrace = 0
symbol_code s.RightBrace = 1
symbol_code s.LeftParen = 2
symbol_code s.RightParen = 3
symbol_code s.LeftBracket = 4
symbol_code s.RightBracket = 5
symbol_code s.Comma = 6
symbol_code s.Semicolon = 7
symbol_code s.Colon = 8
symbol_code s.Dot = 9
symbol_code s.Question = 10
symbol_code s.Star = 11
symbol_code s.Minus = 12
symbol_code s.Less = 13
symbol_code s.Plus = 14
symbol_code s.DotDot = 15
symbol_code s.Assign = 16
symbol_code s.Arrow = 17

-- the characters that have another meaning after `pattern` in TTCN-3: `\ [ ] { } ( ) | # +` and the quote
abbrev pub meta_characters : List ℕ
meta_characters = 92 ∷ 91 ∷ 93 ∷ 123 ∷ 125 ∷ 40 ∷ 41 ∷ 124 ∷ 35 ∷ 43 ∷ 34 ∷ []

-- whether the text after `pattern` can contain this character
abbrev pub is_plain : ℕ → Bool
is_plain c = not (list_any (λ m. c == m) meta_characters)
