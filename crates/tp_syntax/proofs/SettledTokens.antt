-- Tokens among which no `-` stands directly before the number 0 are kept as they are.
use Rattle.std.proofs.Common.{◌≡◌, ℕ, ◌+◌, ◌<◌, Bool, true, false, ◌&&◌, List, [], ◌∷◌, ◌++◌, Option, Some, None, is_some, length, map, drop, get_or, refl, ap, sym, ◌∙◌, inl, inr}
use Rattle.std.proofs.lemmas.Bool.{cases_Bool, or_parts}
use Rattle.tp_syntax.specs.declared.token.Placed.{Placed}
use Rattle.tp_syntax.specs.declared.token.Symbol.TheVariants as s
use Rattle.tp_syntax.specs.Lexeme.{Lexeme, symbol, PlacedLexeme, lexeme_of, placed_lexeme}
use Rattle.tp_syntax.specs.Faults.{is_minus}
use Rattle.tp_syntax.specs.SettledTokens.{has_negative_zero, is_zero, kept_at_end, minus_on, settled_behind, unsigned, waiting}
use Rattle.tp_syntax.proofs.TokensPassedWithinLimits.{from_place}

minus_is : (l : Lexeme) → is_minus l ≡ true → l ≡ symbol s.Minus
minus_is (symbol s.Minus) e = refl
minus_is l e = absurd cc

-- a `-` that waits, and then is kept, is the `-` that stood there
kept_once : (t : PlacedLexeme) (ts : List PlacedLexeme) → unsigned t ++ (kept_at_end (waiting t) ++ ts) ≡ t ∷ ts
kept_once t ts = elim (cases_Bool (is_minus t.token)) [
  | inl is ↦
      let same : minus_on t.line ≡ t = ap (λ (l : Lexeme). record { token = l; line = t.line }) (sym (minus_is t.token is)) in
      rw is (ap (λ (u : PlacedLexeme). u ∷ ts) same)
  | inr other ↦ rw other refl
]

waits : (t : PlacedLexeme) → is_some (waiting t) ≡ is_minus t.token
waits t = elim (cases_Bool (is_minus t.token)) [
  | inl is ↦ rw is refl
  | inr other ↦ rw other refl
]

-- a token, where those after it are kept as they are
as_it_is : (t : PlacedLexeme) (ts : List PlacedLexeme)
    → (has_negative_zero (is_some (waiting t)) ts ≡ false → settled_behind (waiting t) ts ≡ kept_at_end (waiting t) ++ ts)
    → has_negative_zero (is_minus t.token) ts ≡ false → unsigned t ++ settled_behind (waiting t) ts ≡ t ∷ ts
as_it_is t ts others none =
    ap (λ (us : List PlacedLexeme). unsigned t ++ us) (others (ap (λ b. has_negative_zero b ts) (waits t) ∙ none)) ∙ kept_once t ts

pub none_left_out : (minus : Option ℕ) (ts : List PlacedLexeme) → has_negative_zero (is_some minus) ts ≡ false
    → settled_behind minus ts ≡ kept_at_end minus ++ ts
none_left_out None [] none = refl
none_left_out (Some line) [] none = refl
none_left_out None (t ∷ ts) none = as_it_is t ts (none_left_out (waiting t) ts) none
none_left_out (Some line) (t ∷ ts) none =
    let parts = or_parts (is_zero t.token) (has_negative_zero (is_minus t.token) ts) none in
    rw parts.0 (ap (λ (us : List PlacedLexeme). minus_on line ∷ us) (as_it_is t ts (none_left_out (waiting t) ts) parts.1))

-- the number 0 stands at this place, directly after a `-`
pub found_here : (b : Bool) (ps : List Placed) (place : ℕ) (t : Placed) → place < length ps → t ≡ get_or ps place t → b ≡ true
    → is_zero (lexeme_of t.token) ≡ true → true ≡ has_negative_zero b (map placed_lexeme (drop place ps))
found_here b ps place t within at minus zero = rw (from_place ps place t within at, minus, zero) refl

-- it doesn't
pub not_here : (b : Bool) (ps : List Placed) (place : ℕ) (t : Placed) → place < length ps → t ≡ get_or ps place t
    → (b && is_zero (lexeme_of t.token)) ≡ false
    → has_negative_zero (is_minus (lexeme_of t.token)) (map placed_lexeme (drop (place + 1) ps)) ≡ has_negative_zero b (map placed_lexeme (drop place ps))
not_here b ps place t within at none = rw (from_place ps place t within at, none) refl
