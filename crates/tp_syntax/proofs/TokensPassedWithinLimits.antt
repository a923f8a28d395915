-- How a text goes on after a token within the limits.
use Rattle.std.proofs.Common.{◌≡◌, ℕ, ◌+◌, ◌<◌, ◌≤◌, Bool, false, List, [], ◌∷◌, ◌++◌, Option, map, length, drop, get_or, refl, ap, sym, subst, ◌∙◌, append_assoc, append-nil, arith}
use Rattle.std.proofs.lemmas.List.{drop_all, drop_more, length_push}
use Rattle.tp_syntax.specs.declared.token.Placed.{Placed}
use Rattle.tp_syntax.specs.Lexeme.{Lexeme, symbol, PlacedLexeme, lexeme_of, placed_lexeme}
use Rattle.tp_syntax.specs.declared.faults.Bracket.{Bracket}
use Rattle.tp_syntax.specs.declared.faults.Bracket.TheVariants.{Opens, Closes, Neither}
use Rattle.tp_syntax.specs.Faults.{IsAllowed, IsCut, IsCutOf, AreAllowed, AreWithin, MayStandOpen, bracket_behind, is_minus, opened_behind, symbol_bracket}

pub allowed_push : (opened : ℕ) (signed : Bool) (ts : List PlacedLexeme) (t : PlacedLexeme) (end : ℕ) (end_signed : Bool) → AreAllowed opened signed ts end end_signed →
    IsAllowed end end_signed t.token → AreAllowed opened signed (ts ++ t ∷ []) (opened_behind end t.token) (is_minus t.token)
allowed_push opened signed [] t end end_signed are is = (
  subst (λ n. IsAllowed n signed t.token) (sym are.0) (subst (λ b. IsAllowed end b t.token) (sym are.1) is),
  (ap (λ n. opened_behind n t.token) are.0, refl),
)
allowed_push opened signed (u ∷ us) t end end_signed are is =
    (are.0, allowed_push (opened_behind opened u.token) (is_minus u.token) us t end end_signed are.1 is)

-- the tokens go on with these: all before them are within the limits, and so many brackets are open there, directly after a `-` or elsewhere
pub record GoesOnWith (tokens : List PlacedLexeme) (opened : ℕ) (signed : Bool) (rest : List PlacedLexeme) : Type 0 where
  pub passed : List PlacedLexeme
  pub is : tokens ≡ passed ++ rest
  pub allowed : AreAllowed 0 false passed opened signed

-- after a token within the limits the text goes on
abbrev goes_on : (tokens : List PlacedLexeme) (opened : ℕ) (signed : Bool) (t : PlacedLexeme) (rest : List PlacedLexeme) → GoesOnWith tokens opened signed (t ∷ rest) →
    IsAllowed opened signed t.token → GoesOnWith tokens (opened_behind opened t.token) (is_minus t.token) rest
goes_on tokens opened signed t rest g is = record {
  passed = g.passed ++ t ∷ [];
  is = g.is ∙ sym (append_assoc g.passed (t ∷ []) rest);
  allowed = allowed_push 0 false g.passed t opened signed g.allowed is;
}

few_bracket : (opened : ℕ) (k : Bracket) → opened ≤ 32 → MayStandOpen opened k → bracket_behind opened k ≤ 32
few_bracket opened Opens few is = omega arith
few_bracket opened Closes few is = omega arith
few_bracket opened Neither few is = few

-- after a token within the limits 32 brackets at most are open
pub few_behind : (opened : ℕ) (signed : Bool) (l : Lexeme) → opened ≤ 32 → IsAllowed opened signed l → opened_behind opened l ≤ 32
few_behind opened signed (symbol s) few is = few_bracket opened (symbol_bracket s) few is
few_behind opened signed l few is = few

-- so many tokens are within the limits, and the text goes on with the others
pub record HasGone (ps : List Placed) (place opened : ℕ) (signed : Bool) : Type 0 where
  pub at : GoesOnWith (map placed_lexeme ps) opened signed (map placed_lexeme (drop place ps))
  pub all : length at.passed ≡ place

pub from_place : (ps : List Placed) (place : ℕ) (t : Placed) → place < length ps → t ≡ get_or ps place t →
    map placed_lexeme (drop place ps) ≡ placed_lexeme t ∷ map placed_lexeme (drop (place + 1) ps)
from_place ps place t within at =
    ap (λ (qs : List Placed). map placed_lexeme qs) (drop_more ps place t within)
    ∙ ap (λ (u : Placed). placed_lexeme u ∷ map placed_lexeme (drop (place + 1) ps)) (sym at)

-- the token at a place comes next
abbrev next_at : (ps : List Placed) (place opened : ℕ) (signed : Bool) (t : Placed) → HasGone ps place opened signed → place < length ps →
    t ≡ get_or ps place t → GoesOnWith (map placed_lexeme ps) opened signed (placed_lexeme t ∷ map placed_lexeme (drop (place + 1) ps))
next_at ps place opened signed t g within at = record {
  passed = g.at.passed;
  is = g.at.is ∙ ap (λ (ts : List PlacedLexeme). g.at.passed ++ ts) (from_place ps place t within at);
  allowed = g.at.allowed;
}

-- no token is passed
pub none_gone : (ps : List Placed) → HasGone ps 0 0 false
none_gone ps = record { at = record { passed = []; is = refl; allowed = (refl, refl) }; all = refl }

-- the token at a place is passed
pub one_gone : (ps : List Placed) (place opened : ℕ) (signed : Bool) (t : Placed) (opened_there : ℕ) (signed_there : Bool) →
    HasGone ps place opened signed → place < length ps → t ≡ get_or ps place t → IsAllowed opened signed (lexeme_of t.token) →
    opened_there ≡ opened_behind opened (lexeme_of t.token) → signed_there ≡ is_minus (lexeme_of t.token) →
    HasGone ps (place + 1) opened_there signed_there
one_gone ps place opened signed t opened_there signed_there g within at is e f =
    let next = goes_on (map placed_lexeme ps) opened signed (placed_lexeme t) (map placed_lexeme (drop (place + 1) ps)) (next_at ps place opened signed t g within at) is in
    let gone : HasGone ps (place + 1) (opened_behind opened (lexeme_of t.token)) (is_minus (lexeme_of t.token)) = record {
      at = next;
      all = length_push g.at.passed (placed_lexeme t) ∙ ap (λ n. n + 1) g.all;
    } in
    subst (λ n. HasGone ps (place + 1) n signed_there) (sym e)
    (subst (λ b. HasGone ps (place + 1) (opened_behind opened (lexeme_of t.token)) b) (sym f) gone)

-- after all of them each is within the limits
pub all_gone : (ps : List Placed) (place opened : ℕ) (signed : Bool) → HasGone ps place opened signed → length ps ≤ place →
    AreWithin (map placed_lexeme ps)
all_gone ps place opened signed g behind =
    let none : map placed_lexeme (drop place ps) ≡ [] = ap (λ (qs : List Placed). map placed_lexeme qs) (drop_all place ps behind) in
    let all : map placed_lexeme ps ≡ g.at.passed = g.at.is ∙ ap (λ (ts : List PlacedLexeme). g.at.passed ++ ts) none ∙ append-nil g.at.passed in
    (opened, signed, subst (λ (ts : List PlacedLexeme). AreAllowed 0 false ts opened signed) (sym all) g.at.allowed)

-- the tokens are cut after the first that is beyond the limits
pub cut_there : (ps : List Placed) (place opened : ℕ) (signed : Bool) (t : Placed) (front : List PlacedLexeme) (beyond : Option ℕ) →
    HasGone ps place opened signed → place < length ps → t ≡ get_or ps place t → (IsAllowed opened signed (lexeme_of t.token) → ⊥) →
    ((passed rest : List PlacedLexeme) (u : PlacedLexeme) → map placed_lexeme ps ≡ passed ++ u ∷ rest → length passed ≡ place → IsCutOf passed u signed front beyond) →
    IsCut (map placed_lexeme ps) front beyond
cut_there ps place opened signed t front beyond g within at out cut =
    let next = next_at ps place opened signed t g within at in record {
      opened = opened;
      signed = signed;
      passed = g.at.passed;
      token = placed_lexeme t;
      rest = map placed_lexeme (drop (place + 1) ps);
      is = next.is;
      allowed = g.at.allowed;
      beyond_limits = out;
      front_is = cut g.at.passed (map placed_lexeme (drop (place + 1) ps)) (placed_lexeme t) next.is g.all;
    }
