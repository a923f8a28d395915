-- How each token is spelled.
use Rattle.std.specs.Prelude.{◌≡◌, ℕ, ◌+◌, ◌*◌, ◌-◌, Bool, true, List, [], ◌∷◌, ◌++◌, Some, None, codes, ◌==◌}
use Rattle.std.specs.Prelude.{if◌then◌else◌}
use Rattle.std.specs.List.{AllByRecursion}
use Rattle.tp_syntax.specs.declared.token.Symbol.{Symbol}
use Rattle.tp_syntax.specs.declared.token.Symbol.TheVariants as s
use Rattle.tp_syntax.specs.Lexeme.{Lexeme, name, word, number, text, symbol}
use Rattle.tp_syntax.specs.declared.byte.Kind.TheVariants.{Letter}
use Rattle.tp_syntax.specs.Word.{word_of}
use Rattle.tp_syntax.specs.Byte.{byte_kind, is_word_byte, is_digit, is_printable}

-- each byte passes the test
abbrev pub Run : (ℕ → Bool) → List ℕ → Type 0
Run p bs = AllByRecursion (λ b. p b ≡ true) bs

-- a letter, then letters, digits and `_`
abbrev pub IsWord : List ℕ → Type 0
IsWord [] = ⊥
IsWord (b ∷ bs) = (byte_kind b ≡ Letter) × Run is_word_byte bs

-- `0` alone, or a digit from 1 to 9 followed by digits
abbrev pub IsNumber : List ℕ → Type 0
IsNumber [] = ⊥
IsNumber (b ∷ bs) = (is_digit b ≡ true) × Run is_digit bs × (b ≡ 48 → bs ≡ [])

-- the decimal number whose first digits spell n, followed by these digits
abbrev pub value_on : ℕ → List ℕ → ℕ
value_on n [] = n
value_on n (b ∷ bs) = value_on (n * 10 + (b - 48)) bs

-- how a symbol is spelled
abbrev pub symbol_spelling : Symbol → List ℕ
symbol_spelling s.LeftBrace = codes "{"
symbol_spelling s.RightBrace = codes "}"
symbol_spelling s.LeftParen = codes "("
symbol_spelling s.RightParen = codes ")"
symbol_spelling s.LeftBracket = codes "["
symbol_spelling s.RightBracket = codes "]"
symbol_spelling s.Comma = codes ","
symbol_spelling s.Semicolon = codes ";"
symbol_spelling s.Colon = codes ":"
symbol_spelling s.Dot = codes "."
symbol_spelling s.Question = codes "?"
symbol_spelling s.Star = codes "*"
symbol_spelling s.Minus = codes "-"
symbol_spelling s.Less = codes "<"
symbol_spelling s.Plus = codes "+"
symbol_spelling s.DotDot = codes ".."
symbol_spelling s.Assign = codes ":="
symbol_spelling s.Arrow = codes "->"

-- the characters of a text with each quote written twice
abbrev pub doubled : List ℕ → List ℕ
doubled [] = []
doubled (b ∷ bs) = if b == 34 then 34 ∷ 34 ∷ doubled bs else b ∷ doubled bs

-- the bytes spell the token: a name is a word that isn't reserved, and a text is enclosed in quotes (34)
abbrev pub IsSpelled : Lexeme → List ℕ → Type 0
IsSpelled (name n) bs = IsWord bs × (word_of bs ≡ None) × (n ≡ bs)
IsSpelled (word w) bs = IsWord bs × (word_of bs ≡ Some w)
IsSpelled (number n) bs = IsNumber bs × (n ≡ value_on 0 bs)
IsSpelled (text t) bs = (bs ≡ 34 ∷ (doubled t ++ 34 ∷ [])) × Run is_printable t
IsSpelled (symbol s) bs = bs ≡ symbol_spelling s
