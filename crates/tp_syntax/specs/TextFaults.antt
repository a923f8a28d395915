-- When a text is refused, and at which line.
use Rattle.std.specs.Prelude.{◌≡◌, ◌≢◌, ℕ, ◌<◌, ◌≤◌, false, List, [], ◌∷◌, ◌++◌, length, Option, Some, None, ◌⊎◌}
use Rattle.std.specs.List.{AllByRecursion}
use Rattle.tp_syntax.specs.declared.script_fault.TextRule.{TextRule}
use Rattle.tp_syntax.specs.declared.script_fault.TextRule.TheVariants.{Syntax, Limit}
use Rattle.tp_syntax.specs.declared.script_fault.ScriptFault.{ScriptFault}
use Rattle.tp_syntax.specs.declared.script_fault.ScriptFault.TheVariants.{Refused, Memory}
use Rattle.tp_syntax.specs.declared.token.Symbol.{Symbol}
use Rattle.tp_syntax.specs.Lexeme.{Lexeme, name, number, PlacedLexeme}
use Rattle.tp_syntax.specs.Byte.{is_printable}
use Rattle.tp_syntax.specs.Spelling.{Run, doubled, symbol_spelling}
use Rattle.tp_syntax.specs.Cut.{Piece, piece_bytes, IsPiece, Cuts, AreTokens, tokens_in, line_after, TokenAt}

-- a name has at most 64 characters, and a number is at most 9223372036854775808
abbrev pub IsWithinLimits : Lexeme → Type 0
IsWithinLimits (name n) = length n ≤ 64
IsWithinLimits (number n) = n ≤ 9223372036854775808
IsWithinLimits _ = Unit {0}

-- each of the tokens is within the limits
abbrev pub AreWithinLimits : List PlacedLexeme → Type 0
AreWithinLimits ts = AllByRecursion (λ t. IsWithinLimits t.token) ts

-- the token of a piece, if it is one, is within the limits
abbrev pub IsFoundWithinLimits : Option Lexeme → Type 0
IsFoundWithinLimits None = Unit {0}
IsFoundWithinLimits (Some l) = IsWithinLimits l

-- no piece is possible at the front of the bytes
abbrev pub HasNoPiece : List ℕ → Type 0
HasNoPiece bytes = (p : Piece) (rest : List ℕ) → IsPiece p rest → bytes ≡ piece_bytes p ++ rest → ⊥

-- there are no bytes, or a text can't contain the first one
abbrev pub HasNoTextByte : List ℕ → Type 0
HasNoTextByte [] = Unit {0}
HasNoTextByte (b ∷ bs) = is_printable b ≡ false

-- after an opening quote: characters of a text, but no closing quote before the end or a byte that a text can't contain
abbrev pub IsOpenText : List ℕ → Type 0
IsOpenText bytes =
    (t : List ℕ) × (rest : List ℕ) × (bytes ≡ doubled t ++ rest) × Run is_printable t
    × HasNoTextByte rest

-- the bytes begin with a text that isn't closed
abbrev pub HasOpenText : List ℕ → Type 0
HasOpenText bytes = (rest : List ℕ) × (bytes ≡ 34 ∷ rest) × IsOpenText rest

-- the bytes begin with a token beyond the limits
abbrev pub IsBeyondLimits : List ℕ → Type 0
IsBeyondLimits bytes = (l : Lexeme) × (size : ℕ) × TokenAt bytes l size × ¬ IsWithinLimits l

-- the front of the bytes is refused by this rule: 10 if no piece is possible or a text isn't closed, 15 if a token is
-- beyond the limits
abbrev pub IsFaulty : TextRule → List ℕ → Type 0
IsFaulty r bytes =
    (bytes ≢ []) × (((r ≡ Syntax) × HasNoPiece bytes)
    ⊎ (((r ≡ Syntax) × HasOpenText bytes) ⊎ ((r ≡ Limit) × IsBeyondLimits bytes)))

-- the front of the bytes, which is on this line, is refused, or memory ran out
abbrev pub IsFaultAt : List ℕ → ℕ → ScriptFault → Type 0
IsFaultAt bytes line (Refused r n) = (n ≡ line) × IsFaulty r bytes
IsFaultAt bytes line (Memory m) = Unit {0}

-- the first fault of the text is on this line, after pieces within the limits
abbrev pub IsFirstFault : List ℕ → TextRule → ℕ → Type 0
IsFirstFault bytes r n =
    (ps : List Piece) × (rest : List ℕ) × Cuts ps bytes rest × AreWithinLimits (tokens_in 1 ps)
    × (n ≡ line_after 1 ps) × IsFaulty r rest

-- the text is refused with this fault: it is too long, which takes precedence, or this is its first fault; or memory
-- ran out
abbrev pub IsRefused : List ℕ → ScriptFault → Type 0
IsRefused bytes (Refused r n) =
    ((1048576 < length bytes) × (r ≡ Limit) × (n ≡ 0))
    ⊎ ((length bytes ≤ 1048576) × IsFirstFault bytes r n)
IsRefused bytes (Memory m) = Unit {0}

-- the fault is that memory ran out
abbrev pub IsMemory : ScriptFault → Type 0
IsMemory (Refused r n) = ⊥
IsMemory (Memory m) = Unit {0}

-- a text that isn't too long and has tokens, each within the limits, is refused only if memory runs out
abbrev pub GoodTextsAreAccepted : Type 0
GoodTextsAreAccepted =
    (text : List ℕ) (ts : List PlacedLexeme) (fault : ScriptFault) → AreTokens text ts
    → AreWithinLimits ts
    → length text ≤ 1048576 → IsRefused text fault → IsMemory fault

-- the text after an opening quote isn't closed, which is 10 at this line, or memory ran out
abbrev pub IsUnclosed : List ℕ → ℕ → ScriptFault → Type 0
IsUnclosed bytes line (Refused r n) = (n ≡ line) × (r ≡ Syntax) × IsOpenText bytes
IsUnclosed bytes line (Memory m) = Unit {0}

-- the bytes don't begin with a symbol
abbrev pub HasNoSymbol : List ℕ → Type 0
HasNoSymbol bytes = (x : Symbol) (more : List ℕ) → bytes ≡ symbol_spelling x ++ more → ⊥
