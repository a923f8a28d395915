-- Which tokens are beyond the limits, and the fault of tokens that can't be read.
use Rattle.std.specs.Prelude.{◌≡◌, ℕ, zero, ◌+◌, ◌-◌, ◌<◌, ◌≤◌, min, ◌⊎◌, Bool, true, false, List, [], ◌∷◌, ◌++◌}
use Rattle.std.specs.Prelude.{length, drop, Option, None, Some}
use Rattle.tp_syntax.specs.declared.script_fault.TextRule.TheVariants.{Syntax, Limit}
use Rattle.tp_syntax.specs.declared.script_fault.ScriptFault.{ScriptFault}
use Rattle.tp_syntax.specs.declared.script_fault.ScriptFault.TheVariants.{Refused}
use Rattle.tp_syntax.specs.declared.token.Symbol.{Symbol}
use Rattle.tp_syntax.specs.declared.token.Symbol.TheVariants.{LeftBrace, RightBrace, LeftParen, RightParen, LeftBracket}
use Rattle.tp_syntax.specs.declared.token.Symbol.TheVariants.{RightBracket, Comma, Semicolon, Colon, Dot, Question}
use Rattle.tp_syntax.specs.declared.token.Symbol.TheVariants.{Star, Minus, Less, Plus, DotDot, Assign, Arrow}
use Rattle.tp_syntax.specs.Lexeme.{Lexeme, number, symbol, PlacedLexeme}
use Rattle.tp_syntax.specs.declared.faults.Bracket.{Bracket}
use Rattle.tp_syntax.specs.declared.faults.Bracket.TheVariants.{Opens, Closes, Neither}

-- whether a symbol opens a bracket, closes one, or does neither
abbrev pub symbol_bracket : Symbol → Bracket
symbol_bracket LeftBrace = Opens
symbol_bracket RightBrace = Closes
symbol_bracket LeftParen = Opens
symbol_bracket RightParen = Closes
symbol_bracket LeftBracket = Opens
symbol_bracket RightBracket = Closes
symbol_bracket Comma = Neither
symbol_bracket Semicolon = Neither
symbol_bracket Colon = Neither
symbol_bracket Dot = Neither
symbol_bracket Question = Neither
symbol_bracket Star = Neither
symbol_bracket Minus = Neither
symbol_bracket Less = Neither
symbol_bracket Plus = Neither
symbol_bracket DotDot = Neither
symbol_bracket Assign = Neither
symbol_bracket Arrow = Neither

-- whether it is a `-`
abbrev pub is_minus : Lexeme → Bool
is_minus (symbol Minus) = true
is_minus _ = false

-- the greatest number within the limits, which is one more directly after a `-`
abbrev pub greatest_number : Bool → ℕ
greatest_number true = 9223372036854775808
greatest_number false = 9223372036854775807

-- the bracket is within the limits, if this many are open before it
abbrev pub MayStandOpen : ℕ → Bracket → Type 0
MayStandOpen opened Opens = opened < 32
MayStandOpen opened _ = Unit {0}

-- how many brackets are open after this one, if this many are open before it
abbrev pub bracket_behind : ℕ → Bracket → ℕ
bracket_behind opened Opens = opened + 1
bracket_behind opened Closes = opened - 1
bracket_behind opened Neither = opened

-- how many brackets are open after the token, if this many are open before it
abbrev pub opened_behind : ℕ → Lexeme → ℕ
opened_behind opened (symbol s) = bracket_behind opened (symbol_bracket s)
opened_behind opened _ = opened

-- the token is within the limits, if this many brackets are open before it; `signed` says whether it is directly after
-- a `-`
abbrev pub IsAllowed : ℕ → Bool → Lexeme → Type 0
IsAllowed opened signed (number n) = n ≤ greatest_number signed
IsAllowed opened signed (symbol s) = MayStandOpen opened (symbol_bracket s)
IsAllowed opened signed _ = Unit {0}

-- each of the tokens is within the limits. Before them `opened` brackets are open, after them `end`; `signed` and
-- `end_signed` say whether a `-` comes directly before that place
abbrev pub AreAllowed : ℕ → Bool → List PlacedLexeme → ℕ → Bool → Type 0
AreAllowed opened signed [] end end_signed = (opened ≡ end) × (signed ≡ end_signed)
AreAllowed opened signed (t ∷ ts) end end_signed =
    IsAllowed opened signed t.token
    × AreAllowed (opened_behind opened t.token) (is_minus t.token) ts end end_signed

-- the line of the first of the tokens, or of the end of the text if there are none
abbrev pub fault_line : List PlacedLexeme → ℕ → ℕ
fault_line [] last = last
fault_line (t ∷ ts) last = t.line

-- the token, brought within the limits: a number that is too great becomes the greatest within them
abbrev pub brought_within : Bool → Lexeme → Lexeme
brought_within signed (number n) = number (min n (greatest_number signed))
brought_within signed t = t

-- `front` has the tokens that were passed and the token after them, brought within the limits; `beyond` is the line of
-- that token
abbrev pub IsCutOf : List PlacedLexeme → PlacedLexeme → Bool → List PlacedLexeme → Option ℕ → Type 0
IsCutOf passed t signed front beyond =
    (front ≡ passed ++ record { token = brought_within signed t.token; line = t.line } ∷ [])
    × (beyond ≡ Some t.line)

-- `front` has the tokens up to the first one beyond the limits, which is brought within them; `beyond` is its line
pub record IsCut (tokens front : List PlacedLexeme) (beyond : Option ℕ) : Type 0 where
  pub opened : ℕ
  pub signed : Bool
  pub passed : List PlacedLexeme
  pub token : PlacedLexeme
  pub rest : List PlacedLexeme
  pub is : tokens ≡ passed ++ token ∷ rest
  pub allowed : AreAllowed 0 false passed opened signed
  pub beyond_limits : IsAllowed opened signed token.token → ⊥
  pub front_is : IsCutOf passed token signed front beyond

-- each token is within the limits
abbrev pub AreWithin : List PlacedLexeme → Type 0
AreWithin ts = (opened : ℕ) × (signed : Bool) × AreAllowed 0 false ts opened signed

-- the tokens that the parser sees: all of them if each is within the limits, otherwise those up to the first one beyond
-- the limits, which is brought within them and whose line is noted
abbrev pub AreTokensSeen : List PlacedLexeme → List PlacedLexeme → Option ℕ → Type 0
AreTokensSeen tokens front beyond =
    ((front ≡ tokens) × (beyond ≡ None) × AreWithin tokens) ⊎ IsCut tokens front beyond

-- the fault of tokens whose last `left` can't be read: 15 at the last token if `left` is 0 and that token is beyond the
-- limits, otherwise 10 at the first of the last `left`, or at the end of the text
abbrev pub fault_in : List PlacedLexeme → Option ℕ → ℕ → ℕ → ScriptFault
fault_in front (Some line) zero last = Refused Limit line
fault_in front beyond left last =
    Refused Syntax (fault_line (drop (length front - left) front) last)
