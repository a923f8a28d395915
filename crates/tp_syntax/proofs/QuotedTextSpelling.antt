-- Texts as they are spelled.
use Rattle.std.proofs.Common.{◌≡◌, ◌≢◌, ℕ, suc, ◌+◌, ◌≤◌, ◌<◌, Bool, true, List, [], ◌∷◌, ◌++◌, length, take, drop, get_or, refl, ap, sym, ◌∙◌, arith, add-one, append_assoc, inl, inr, subst}
use Rattle.std.proofs.lemmas.List.{take_more}
use Rattle.std.proofs.lemmas.Bool.Decides.{eqb_tells}
use Rattle.tp_syntax.specs.Lexeme.{text}
use Rattle.tp_syntax.specs.Byte.{is_printable, is_quote}
use Rattle.tp_syntax.specs.Cut.{StopsAt, IsLongest, TokenAt}
use Rattle.tp_syntax.specs.Spelling.{Run, doubled}
use Rattle.tp_syntax.proofs.LongestTokens.{text_longest}

pub run_push : (p : ℕ → Bool) (t : List ℕ) (b : ℕ) → Run p t → p b ≡ true → Run p (t ++ b ∷ [])
run_push p [] b r e = (e, tt)
run_push p (x ∷ xs) b r e = (r.0, run_push p xs b r.1 e)

pub doubled_append : (t u : List ℕ) → doubled (t ++ u) ≡ doubled t ++ doubled u
doubled_append [] u = refl
doubled_append (b ∷ bs) u = elim (eqb_tells b 34) [
  | inl (test, eq) ↦ rw test (ap (λ (x : List ℕ). 34 ∷ 34 ∷ x) (doubled_append bs u))
  | inr (test, ne) ↦ rw test (ap (λ (x : List ℕ). b ∷ x) (doubled_append bs u))
]

other : (b : ℕ) → b ≢ 34 → doubled (b ∷ []) ≡ b ∷ []
other b ne = elim (eqb_tells b 34) [
  | inl (test, eq) ↦ absurd (ne eq)
  | inr (test, n) ↦ rw test refl
]

-- one more byte of a text
pub one_more : (bytes t : List ℕ) (at : ℕ) → at < length bytes → take at bytes ≡ doubled t → get_or bytes at 0 ≢ 34 →
    take (at + 1) bytes ≡ doubled (t ++ get_or bytes at 0 ∷ [])
one_more bytes t at h e ne =
    take_more bytes at 0 h ∙ ap (λ (x : List ℕ). x ++ get_or bytes at 0 ∷ []) e ∙ sym (ap (λ (x : List ℕ). doubled t ++ x) (other (get_or bytes at 0) ne))
    ∙ sym (doubled_append t (get_or bytes at 0 ∷ []))

-- a doubled quote more
pub quote_more : (bytes t : List ℕ) (at : ℕ) → at + 1 < length bytes → take at bytes ≡ doubled t → get_or bytes at 0 ≡ 34 → get_or bytes (at + 1) 0 ≡ 34 →
    take (at + 2) bytes ≡ doubled (t ++ 34 ∷ [])
quote_more bytes t at h e e1 e2 =
    let h0 : at < length bytes = omega arith in
    let first : take (at + 1) bytes ≡ doubled t ++ 34 ∷ [] =
    take_more bytes at 0 h0 ∙ ap (λ (x : List ℕ). x ++ get_or bytes at 0 ∷ []) e ∙ ap (λ (y : ℕ). doubled t ++ y ∷ []) e1 in
    let second : take (at + 1 + 1) bytes ≡ (doubled t ++ 34 ∷ []) ++ 34 ∷ [] =
    take_more bytes (at + 1) 0 h ∙ ap (λ (x : List ℕ). x ++ get_or bytes (at + 1) 0 ∷ []) first ∙ ap (λ (y : ℕ). (doubled t ++ 34 ∷ []) ++ y ∷ []) e2 in
    let two : at + 2 ≡ at + 1 + 1 = omega arith in
    rw two (second ∙ append_assoc (doubled t) (34 ∷ []) (34 ∷ []) ∙ sym (doubled_append t (34 ∷ [])))

-- a text with its quotes
pub text_at : (bytes t : List ℕ) (n : ℕ) → 0 < length bytes → get_or bytes 0 0 ≡ 34 → n ≤ length (drop 1 bytes) → take n (drop 1 bytes) ≡ doubled t ++ 34 ∷ [] →
    StopsAt is_quote (drop n (drop 1 bytes)) → Run is_printable t → TokenAt bytes (text t) (n + 1)
text_at [] t n h q w sp st pr = absurd (omega arith)
text_at (b ∷ bs) t n h q w sp st pr =
    let spelled : take (suc n) (b ∷ bs) ≡ 34 ∷ (doubled t ++ 34 ∷ []) = ap (λ (x : List ℕ). b ∷ x) sp ∙ ap (λ (y : ℕ). y ∷ (doubled t ++ 34 ∷ [])) q in
    record {
      some = omega arith;
      within = omega arith;
      spelled = rw add-one (spelled, pr);
      longest = rw add-one (subst (λ x. IsLongest x (drop n bs)) (sym spelled) (text_longest t (drop n bs) st));
    }
