-- The piece at the front.
use Rattle.std.proofs.Common.{◌≡◌, ℕ, zero, suc, ◌+◌, ◌≤◌, ◌<◌, Bool, true, false, List, [], ◌∷◌, ◌++◌, length, take, drop, get_or, refl, ap, sym, ◌∙◌, arith, Some, None, inl, inr, ◌==◌, if◌then◌else◌, ◌||◌, suc-le-suc}
use Rattle.std.specs.List.{prefix_len}
use Rattle.std.proofs.lemmas.List.Sums.{prefix_len-le-length}
use Rattle.std.proofs.lemmas.Bool.Decides.{eqb_tells}
use Rattle.tp_syntax.specs.Lexeme.{Lexeme}
use Rattle.tp_syntax.specs.declared.byte.Kind.{Kind}
use Rattle.tp_syntax.specs.declared.byte.Kind.TheVariants.{Letter, Digit, Underscore, Quote, Blank, Other}
use Rattle.tp_syntax.specs.Cut.{BeginsAs, TokenAt, PieceAt, blank, line_comment, block_comment, token, HasNoEnd, ends_here}
use Rattle.tp_syntax.specs.Byte.{byte_kind, between, is_in_line}
use Rattle.tp_syntax.proofs.LongestByteRuns.{run_front, run_stops}

pub piece_of_token : (bytes : List ℕ) (l : Lexeme) (n : ℕ) → TokenAt bytes l n → PieceAt bytes (Some l) n
piece_of_token bytes l n h =
    record { some = h.some; within = h.within; piece = token l (take n bytes); spelled = refl; fits = (h.spelled, h.longest); holds = refl }

pub blank_at : (bytes : List ℕ) → BeginsAs Blank bytes → PieceAt bytes None 1
blank_at [] h = absurd h
blank_at (b ∷ bs) h = record { some = omega arith; within = omega arith; piece = blank b; spelled = refl; fits = h; holds = refl }

pub line_at : (bytes : List ℕ) (n : ℕ) → 2 ≤ length bytes → get_or bytes 0 0 ≡ 47 → get_or bytes 1 0 ≡ 47 → n ≡ prefix_len is_in_line (drop 2 bytes)
    → PieceAt bytes None (2 + n)
line_at [] n h a b e = absurd (omega arith)
line_at (x ∷ []) n h a b e = absurd (omega arith)
line_at (x ∷ y ∷ bs) n h a b e =
    let size : 2 + n ≡ suc (suc n) = omega arith in
    rw size (record {
      some = omega arith;
      within = rw e (suc-le-suc (suc-le-suc (prefix_len-le-length is_in_line bs)));
      piece = line_comment (take n bs);
      spelled = ap (λ (z : ℕ). z ∷ 47 ∷ take n bs) (sym a) ∙ ap (λ (z : ℕ). x ∷ z ∷ take n bs) (sym b);
      fits = rw e (run_front is_in_line bs, run_stops is_in_line bs);
      holds = refl;
    })

pub ends : (b c : ℕ) (rest : List ℕ) → (b ≡ 42 → c ≡ 47 → ⊥) → ends_here b (c ∷ rest) ≡ false
ends b c rest h = elim (eqb_tells b 42) [
  | inl (test, eq) ↦ elim (eqb_tells c 47) [
    | inl (test2, eq2) ↦ absurd (h eq eq2)
    | inr (test2, ne2) ↦ rw (test, test2) refl
  ]
  | inr (test, ne) ↦ rw test refl
]

differ : ◌≡◌ {A = ℕ} 42 47 → ⊥
differ q = omega arith

first_ok : (b n : ℕ) (bs : List ℕ) → n < length bs → (b ≡ 42 → get_or bs 0 0 ≡ 47 → ⊥) → ends_here b (take n bs ++ 42 ∷ []) ≡ false
first_ok b n [] lt h = absurd (omega arith)
first_ok b zero (c ∷ cs) lt h = ends b 42 [] (λ p q. absurd (differ q))
first_ok b (suc n) (c ∷ cs) lt h = ends b c (take n cs ++ 42 ∷ []) h

zero_below : (n : ℕ) → 0 < suc n
zero_below n = omega arith

pub no_end : (n : ℕ) (bytes : List ℕ) → n < length bytes → ((k : ℕ) → k < n → get_or bytes k 0 ≡ 42 → get_or bytes (suc k) 0 ≡ 47 → ⊥)
    → HasNoEnd (take n bytes ++ 42 ∷ [])
no_end n [] lt none = absurd (omega arith)
no_end zero (b ∷ bs) lt none = (refl, tt)
no_end (suc n) (b ∷ bs) lt none =
    let below : n < length bs = omega arith in
    (first_ok b n bs below (none 0 (zero_below n)), no_end n bs below (λ k h. none (suc k) (suc-le-suc h)))

pub starts_some : (k : Kind) (bytes : List ℕ) → BeginsAs k bytes → 0 < length bytes
starts_some k [] h = absurd h
starts_some k (b ∷ bs) h = omega arith

pub block_at : (bytes : List ℕ) (n : ℕ) → 2 ≤ length bytes → get_or bytes 0 0 ≡ 47 → get_or bytes 1 0 ≡ 42 → n + 2 ≤ length (drop 2 bytes) →
    take (n + 2) (drop 2 bytes) ≡ take n (drop 2 bytes) ++ 42 ∷ 47 ∷ [] → HasNoEnd (take n (drop 2 bytes) ++ 42 ∷ []) → PieceAt bytes None (n + 4)
block_at [] n h a b w e f = absurd (omega arith)
block_at (x ∷ []) n h a b w e f = absurd (omega arith)
block_at (x ∷ y ∷ bs) n h a b w e f =
    let size : n + 4 ≡ suc (suc (n + 2)) = omega arith in
    rw size (record {
      some = omega arith;
      within = suc-le-suc (suc-le-suc w);
      piece = block_comment (take n bs);
      spelled = ap (λ (z : ℕ). z ∷ 42 ∷ (take n bs ++ 42 ∷ 47 ∷ [])) (sym a) ∙ ap (λ (z : ℕ). x ∷ z ∷ (take n bs ++ 42 ∷ 47 ∷ [])) (sym b)
          ∙ ap (λ (z : List ℕ). x ∷ y ∷ z) (sym e);
      fits = f;
      holds = refl;
    })

-- where the test for a quote fails, the kind is another one
not_quote : (l d u w : Bool) →
    (if l then Letter else (if d then Digit else (if u then Underscore else (if false then Quote else (if w then Blank else Other))))) ≡ Quote → ⊥
not_quote true digit u w e = cc
not_quote false true u w e = cc
not_quote false false true w e = cc
not_quote false false false true e = cc
not_quote false false false false e = cc

pub quote_byte : (b : ℕ) → byte_kind b ≡ Quote → b ≡ 34
unfolding byte_kind
quote_byte b e = elim (eqb_tells b 34) [
  | inl (test, eq) ↦ eq
  | inr (test, ne) ↦ absurd (not_quote (between 97 122 b || between 65 90 b) (between 48 57 b) (b == 95) (between 9 13 b || b == 32) (rw test at e))
]

-- a quote is one byte
pub starts_quote : (bytes : List ℕ) → BeginsAs Quote bytes → get_or bytes 0 0 ≡ 34
starts_quote [] h = absurd h
starts_quote (b ∷ bs) h = quote_byte b h
