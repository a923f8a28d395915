-- Tokens without each `-` directly before the number 0, which takes the line of that `-`.
use Rattle.std.specs.Prelude.{ℕ, Bool, false, ◌&&◌, ◌||◌, cond, List, [], ◌∷◌, ◌++◌, Option, Some, None, ◌==◌}
use Rattle.tp_syntax.specs.declared.token.Symbol.TheVariants.{Minus}
use Rattle.tp_syntax.specs.Lexeme.{Lexeme, number, symbol, PlacedLexeme}
use Rattle.tp_syntax.specs.Faults.{is_minus}

abbrev pub is_zero : Lexeme → Bool
is_zero (number n) = n == 0
is_zero _ = false

abbrev pub minus_on : ℕ → PlacedLexeme
minus_on line = record { token = symbol Minus; line = line }

-- the tokens that are kept of a token, and of a `-` directly before it if its line is given; a `-` waits for the token
-- after it
abbrev pub unsigned : PlacedLexeme → List PlacedLexeme
unsigned t = cond (is_minus t.token) [] (t ∷ [])

abbrev pub kept_of : Option ℕ → PlacedLexeme → List PlacedLexeme
kept_of None t = unsigned t
kept_of (Some line) t =
    cond (is_zero t.token) (record {
      token = t.token;
      line = line;
    } ∷ []) (minus_on line ∷ unsigned t)

abbrev pub waiting : PlacedLexeme → Option ℕ
waiting t = cond (is_minus t.token) (Some t.line) None

abbrev pub kept_at_end : Option ℕ → List PlacedLexeme
kept_at_end None = []
kept_at_end (Some line) = minus_on line ∷ []

-- the tokens that are kept of these, after a waiting `-` if its line is given
abbrev pub settled_behind : Option ℕ → List PlacedLexeme → List PlacedLexeme
settled_behind minus [] = kept_at_end minus
settled_behind minus (t ∷ ts) = kept_of minus t ++ settled_behind (waiting t) ts

abbrev pub settled : List PlacedLexeme → List PlacedLexeme
settled ts = settled_behind None ts

-- whether these tokens contain a `-` directly before the number 0, or begin with the number 0 directly after a `-`
abbrev pub has_negative_zero : Bool → List PlacedLexeme → Bool
has_negative_zero after_minus [] = false
has_negative_zero after_minus (t ∷ ts) =
    (after_minus && is_zero t.token) || has_negative_zero (is_minus t.token) ts
