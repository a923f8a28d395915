-- No token holds the byte that ends a line.
use Rattle.std.proofs.Common.{◌≡◌, ℕ, Bool, true, false, List, [], ◌∷◌, refl, ap, sym, ◌∙◌, subst, inl, inr, Option, Some, None, is_some, drop}
use Rattle.std.specs.Option.{option_map}
use Rattle.std.proofs.lemmas.Bool.Decides.{eqb_tells}
use Rattle.tp_syntax.specs.declared.token.Symbol.{Symbol}
use Rattle.tp_syntax.specs.declared.token.Symbol.TheVariants as s
use Rattle.tp_syntax.specs.declared.token.Token.{Token}
use Rattle.tp_syntax.specs.Byte.{byte_kind, is_word_byte, is_digit, is_printable}
use Rattle.tp_syntax.specs.Lexeme.{Lexeme, name, word, number, text, symbol, lexeme_of}
use Rattle.tp_syntax.specs.Spelling.{Run, IsSpelled, symbol_spelling}
use Rattle.tp_syntax.specs.Cut.{Piece, token, IsPiece, piece_bytes, token_of, newlines, PieceAt}
use Rattle.tp_syntax.proofs.LongestTokens.{word_run, number_run, form, closed}

-- a run of a test that the byte 10 fails holds no line end
run_lines : (p : ℕ → Bool) → p 10 ≡ false → (bs : List ℕ) → Run p bs → newlines bs ≡ 0
run_lines p fails [] r = refl
run_lines p fails (b ∷ bs) r = elim (eqb_tells b 10) [
  | inl (test, eq) ↦ let clash : true ≡ false = sym r.0 ∙ ap p eq ∙ fails in absurd cc
  | inr (test, ne) ↦ rw test (run_lines p fails bs r.1)
]

word_lines : is_word_byte 10 ≡ false
unfolding byte_kind
word_lines = refl

digit_lines : is_digit 10 ≡ false
unfolding byte_kind
digit_lines = refl

-- what stands between quotes, and its closing quote, are characters of texts
closed_run : (t : List ℕ) → Run is_printable t → Run is_printable (closed t)
closed_run [] r = (refl, tt)
closed_run (b ∷ bs) r = elim (form b bs) [
  | inl (eq, f) ↦ subst (λ (z : List ℕ). Run is_printable z) (sym f) (refl, (refl, closed_run bs r.1))
  | inr (ne, f) ↦ subst (λ (z : List ℕ). Run is_printable z) (sym f) (r.0, closed_run bs r.1)
]

symbol_lines : (x : Symbol) → newlines (symbol_spelling x) ≡ 0
symbol_lines s.LeftBrace = refl
symbol_lines x = refl

spelled_lines : (l : Lexeme) (bs : List ℕ) → IsSpelled l bs → newlines bs ≡ 0
spelled_lines (name n) bs h = run_lines is_word_byte word_lines bs (word_run bs h.0)
spelled_lines (word w) bs h = run_lines is_word_byte word_lines bs (word_run bs h.0)
spelled_lines (number n) bs h = run_lines is_digit digit_lines bs (number_run bs h.0)
spelled_lines (text t) bs h = ap newlines h.0 ∙ run_lines is_printable refl (34 ∷ closed t) (refl, closed_run t h.1)
spelled_lines (symbol x) bs h = ap newlines h ∙ symbol_lines x

-- a piece that is a token ends no line
pub token_lines : (p : Piece) (rest : List ℕ) (l : Lexeme) → IsPiece p rest → token_of p ≡ Some l → newlines (piece_bytes p) ≡ 0
token_lines (token m bs) rest l h e = spelled_lines m bs h.0
token_lines p rest l h e = absurd cc

pub piece_lines : (bytes : List ℕ) (found : Option Token) (size : ℕ) (h : PieceAt bytes (option_map lexeme_of found) size) → is_some found ≡ true
    → newlines (piece_bytes h.piece) ≡ 0
piece_lines bytes None size h some = absurd cc
piece_lines bytes (Some t) size h some = token_lines h.piece (drop size bytes) (lexeme_of t) h.fits h.holds
