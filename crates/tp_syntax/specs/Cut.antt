-- The tokens of a text: how it is cut into pieces.
use Rattle.std.specs.Prelude.{◌≡◌, ℕ, ◌+◌, ◌<◌, ◌≤◌, Bool, false, List, [], ◌∷◌, ◌++◌, length, take, drop, Option, Some}
use Rattle.std.specs.Prelude.{None, codes, count_by, ◌==◌, if◌then◌else◌}
use Rattle.tp_syntax.specs.declared.byte.Kind.{Kind}
use Rattle.tp_syntax.specs.declared.byte.Kind.TheVariants.{Blank}
use Rattle.tp_syntax.specs.Lexeme.{Lexeme, PlacedLexeme}
use Rattle.tp_syntax.specs.Byte.{byte_kind, is_in_line}
use Rattle.tp_syntax.specs.Spelling.{IsSpelled, Run}

-- a piece of a text: a byte of white space, a comment without its marks, a token and its bytes
pub data Piece : Type 0 where
  blank : ℕ → Piece
  line_comment : List ℕ → Piece
  block_comment : List ℕ → Piece
  token : Lexeme → List ℕ → Piece

-- the bytes of a piece, marks included
abbrev pub piece_bytes : Piece → List ℕ
piece_bytes (blank b) = b ∷ []
piece_bytes (line_comment bs) = codes "//" ++ bs
piece_bytes (block_comment bs) = codes "/*" ++ (bs ++ codes "*/")
piece_bytes (token l bs) = bs

-- whether this byte and the one after it are `*/`
abbrev pub ends_here : ℕ → List ℕ → Bool
ends_here b [] = false
ends_here b (c ∷ bs) = if b == 42 then c == 47 else false

-- the bytes don't contain `*/`
abbrev pub HasNoEnd : List ℕ → Type 0
HasNoEnd [] = Unit {0}
HasNoEnd (b ∷ bs) = (ends_here b bs ≡ false) × HasNoEnd bs

-- there are no bytes, or the first one fails the test
abbrev pub StopsAt : (ℕ → Bool) → List ℕ → Type 0
StopsAt p [] = Unit {0}
StopsAt p (b ∷ bs) = p b ≡ false

-- no token at the front of these bytes and this rest is longer than the bytes
abbrev pub IsLongest : List ℕ → List ℕ → Type 0
IsLongest bs rest =
    (l : Lexeme) (cs more : List ℕ) → IsSpelled l cs → bs ++ rest ≡ cs ++ more
    → length cs ≤ length bs

-- the piece can be followed by this rest: a line comment goes to the end of its line or of the text, a block comment to
-- the first `*/`, and a token is the longest one at its place
abbrev pub IsPiece : Piece → List ℕ → Type 0
IsPiece (blank b) rest = byte_kind b ≡ Blank
IsPiece (line_comment bs) rest = Run is_in_line bs × StopsAt is_in_line rest
IsPiece (block_comment bs) rest = HasNoEnd (bs ++ codes "*")
IsPiece (token l bs) rest = IsSpelled l bs × IsLongest bs rest

-- the text is these pieces, one after the other, and then this rest
abbrev pub Cuts : List Piece → List ℕ → List ℕ → Type 0
Cuts [] bytes rest = bytes ≡ rest
Cuts (p ∷ ps) bytes rest =
    (more : List ℕ) × (bytes ≡ piece_bytes p ++ more) × IsPiece p more × Cuts ps more rest

-- the number of lines that end in the bytes, which is that of bytes 10
abbrev pub newlines : List ℕ → ℕ
newlines bs = count_by (λ b. b == 10) bs

-- the line after the pieces, if the first one begins on line n
abbrev pub line_after : ℕ → List Piece → ℕ
line_after n [] = n
line_after n (p ∷ ps) = line_after (n + newlines (piece_bytes p)) ps

-- these tokens, after the piece itself on line n if it is a token
abbrev pub place : ℕ → Piece → List PlacedLexeme → List PlacedLexeme
place n (token l bs) ts = record { token = l; line = n } ∷ ts
place n _ ts = ts

-- the tokens among the pieces, with their lines, if the first piece begins on line n
abbrev pub tokens_in : ℕ → List Piece → List PlacedLexeme
tokens_in n [] = []
tokens_in n (p ∷ ps) = place n p (tokens_in (n + newlines (piece_bytes p)) ps)

-- these are the tokens of the text, with their lines
abbrev pub AreTokens : List ℕ → List PlacedLexeme → Type 0
AreTokens bytes ts = (ps : List Piece) × Cuts ps bytes [] × (ts ≡ tokens_in 1 ps)

-- a text has at most one list of tokens
abbrev pub TokensAreUnique : Type 0
TokensAreUnique =
    (text : List ℕ) (a b : List PlacedLexeme) → AreTokens text a → AreTokens text b → a ≡ b

-- the first byte is of this kind
abbrev pub BeginsAs : Kind → List ℕ → Type 0
BeginsAs k [] = ⊥
BeginsAs k (b ∷ bs) = byte_kind b ≡ k

-- the bytes begin with the token, which has this size
pub record TokenAt (bytes : List ℕ) (l : Lexeme) (size : ℕ) : Type 0 where
  pub some : 0 < size
  pub within : size ≤ length bytes
  pub spelled : IsSpelled l (take size bytes)
  pub longest : IsLongest (take size bytes) (drop size bytes)

-- the token that a piece is, if it is one
abbrev pub token_of : Piece → Option Lexeme
token_of (token l bs) = Some l
token_of _ = None

-- the bytes begin with a piece of this size: this token or, if none is given, a piece that is not a token
pub record PieceAt (bytes : List ℕ) (found : Option Lexeme) (size : ℕ) : Type 0 where
  pub some : 0 < size
  pub within : size ≤ length bytes
  pub piece : Piece
  pub spelled : piece_bytes piece ≡ take size bytes
  pub fits : IsPiece piece (drop size bytes)
  pub holds : token_of piece ≡ found

-- the token of a piece, on its line
abbrev pub placed : Option Lexeme → ℕ → List PlacedLexeme
placed None n = []
placed (Some l) n = record { token = l; line = n } ∷ []
