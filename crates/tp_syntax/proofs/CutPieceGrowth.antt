-- A text as its pieces, one after the other.
use Rattle.std.proofs.Common.{◌≡◌, ℕ, ◌+◌, List, [], ◌∷◌, ◌++◌, take, drop, Option, Some, None, refl, ap, sym, subst, ◌∙◌}
use Rattle.std.proofs.lemmas.List.{take-append-drop}
use Rattle.tp_syntax.specs.Lexeme.{Lexeme, PlacedLexeme}
use Rattle.tp_syntax.specs.Cut.{Piece, token, piece_bytes, IsPiece, Cuts, PieceAt, token_of, tokens_in, place, newlines, placed, line_after}
use Rattle.tp_syntax.specs.TextFaults.{AreWithinLimits, IsFoundWithinLimits}

line_after_push : (n : ℕ) (ps : List Piece) (p : Piece) → line_after n (ps ++ p ∷ []) ≡ line_after n ps + newlines (piece_bytes p)
line_after_push n [] p = refl
line_after_push n (q ∷ qs) p = line_after_push (n + newlines (piece_bytes q)) qs p

place_append : (n : ℕ) (p : Piece) (ts us : List PlacedLexeme) → place n p (ts ++ us) ≡ place n p ts ++ us
place_append n (token l bs) ts us = refl
place_append n p ts us = refl

place_nil : (n : ℕ) (p : Piece) → place n p [] ≡ placed (token_of p) n
place_nil n (token l bs) = refl
place_nil n p = refl

tokens_in_push : (n : ℕ) (ps : List Piece) (p : Piece) → tokens_in n (ps ++ p ∷ []) ≡ tokens_in n ps ++ placed (token_of p) (line_after n ps)
tokens_in_push n [] p = place_nil n p
tokens_in_push n (q ∷ qs) p =
    let m : ℕ = n + newlines (piece_bytes q) in
    ap (place n q) (tokens_in_push m qs p) ∙ place_append n q (tokens_in m qs) (placed (token_of p) (line_after m qs))

-- one more piece is cut off
cut_on : (front : List Piece) (whole bytes rest : List ℕ) (p : Piece) → Cuts front whole bytes → bytes ≡ piece_bytes p ++ rest → IsPiece p rest
    → Cuts (front ++ p ∷ []) whole rest
cut_on [] whole bytes rest p h e i = (rest, h ∙ e, i, refl)
cut_on (q ∷ qs) whole bytes rest p h e i = (h.0, h.1, h.2, cut_on qs h.0 bytes rest p h.3 e i)

cut_more : (bytes whole : List ℕ) (found : Option Lexeme) (size : ℕ) (front : List Piece) (h : PieceAt bytes found size) → Cuts front whole bytes
    → Cuts (front ++ h.piece ∷ []) whole (drop size bytes)
cut_more bytes whole found size front h cut =
    let parts : bytes ≡ piece_bytes h.piece ++ drop size bytes =
    sym (take-append-drop size bytes) ∙ ap (λ (x : List ℕ). x ++ drop size bytes) (sym h.spelled) in
    cut_on front whole bytes (drop size bytes) h.piece cut parts h.fits

all_on : (ts us : List PlacedLexeme) → AreWithinLimits ts → AreWithinLimits us → AreWithinLimits (ts ++ us)
all_on [] us h i = i
all_on (t ∷ ts) us h i = (h.0, all_on ts us h.1 i)

placed_within : (found : Option Lexeme) (n : ℕ) → IsFoundWithinLimits found → AreWithinLimits (placed found n)
placed_within None n h = tt
placed_within (Some l) n h = (h, tt)

-- one more piece within the limits
within_more : (ts : List PlacedLexeme) (found : Option Lexeme) (n : ℕ) → AreWithinLimits ts → IsFoundWithinLimits found
    → AreWithinLimits (ts ++ placed found n)
within_more ts found n h i = all_on ts (placed found n) h (placed_within found n i)

-- the pieces so far are cut off the front of the text; these are their tokens, and the line after them
pub record IsCutSoFar (text rest : List ℕ) (tokens : List PlacedLexeme) (line : ℕ) : Type 0 where
  pub front : List Piece
  pub cut : Cuts front text rest
  pub are : tokens ≡ tokens_in 1 front
  pub limits : AreWithinLimits tokens
  pub at : line ≡ line_after 1 front

-- one more piece, in these bytes
pub one_piece : {text rest bytes after : List ℕ} {tokens more : List PlacedLexeme} {line lines size : ℕ} {found : Option Lexeme}
    → IsCutSoFar text rest tokens line → PieceAt rest found size → IsFoundWithinLimits found → bytes ≡ take size rest → after ≡ drop size rest
    → lines ≡ newlines bytes → more ≡ tokens ++ placed found line → IsCutSoFar text after more (line + lines)
one_piece {text} {rest} {bytes} {after} {tokens} {more} {line} {lines} {size} {found} c h within front back n grown = record {
  front = c.front ++ h.piece ∷ [];
  cut = subst (λ (x : List ℕ). Cuts (c.front ++ h.piece ∷ []) text x) (sym back) (cut_more rest text found size c.front h c.cut);
  are = grown ∙ ap (λ (x : List PlacedLexeme). x ++ placed found line) c.are
      ∙ ap (λ (x : Option Lexeme). tokens_in 1 c.front ++ placed x line) (sym h.holds)
      ∙ ap (λ (x : ℕ). tokens_in 1 c.front ++ placed (token_of h.piece) x) c.at
      ∙ sym (tokens_in_push 1 c.front h.piece);
  limits = rw grown (within_more tokens found line c.limits within);
  at = ap (λ (x : ℕ). x + lines) c.at ∙ ap (λ (x : ℕ). line_after 1 c.front + x) (n ∙ ap newlines (front ∙ sym h.spelled))
      ∙ sym (line_after_push 1 c.front h.piece);
}
