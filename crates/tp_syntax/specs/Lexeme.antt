-- Tokens as contracts see them: without the addresses of their bytes.
use Rattle.std.specs.Prelude.{ℕ, List}
use Rattle.tp_syntax.specs.declared.word.Word.{Word}
use Rattle.tp_syntax.specs.declared.token.Symbol.{Symbol}
use Rattle.tp_syntax.specs.declared.token.Token.{Token}
use Rattle.tp_syntax.specs.declared.token.Token.TheVariants as token
use Rattle.tp_syntax.specs.declared.token.Placed.{Placed}

-- a token: the bytes of a name, a reserved word, a number, the characters of a text, a symbol
pub data Lexeme : Type 0 where
  name : List ℕ → Lexeme
  word : Word → Lexeme
  number : ℕ → Lexeme
  text : List ℕ → Lexeme
  symbol : Symbol → Lexeme

-- a token, as contracts see it
abbrev pub lexeme_of : Token → Lexeme
lexeme_of (token.Name s) = name s.now
lexeme_of (token.Word w) = word w
lexeme_of (token.Number n) = number n
lexeme_of (token.Text t) = text t.items
lexeme_of (token.Symbol s) = symbol s

-- a token with the line where it begins
pub record PlacedLexeme : Type 0 where
  pub token : Lexeme
  pub line : ℕ

-- a token with its line, as contracts see it
abbrev pub placed_lexeme : Placed → PlacedLexeme
placed_lexeme p = record { token = lexeme_of p.token; line = p.line }
