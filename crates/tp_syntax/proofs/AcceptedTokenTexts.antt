-- A text that has tokens within the limits isn't refused.
use Rattle.std.proofs.Common.{◌≡◌, ◌≢◌, ℕ, ◌+◌, true, false, List, [], ◌∷◌, ◌++◌, take, drop, refl, ap, sym, ◌∙◌, subst, arith, inl, inr, ◌⊎◌}
use Rattle.std.proofs.lemmas.Bool.Decides.{eqb_tells}
use Rattle.std.proofs.lemmas.List.{append_cancel_left, take-append-drop}
use Rattle.tp_syntax.specs.declared.script_fault.TextRule.{TextRule}
use Rattle.tp_syntax.specs.declared.script_fault.ScriptFault.TheVariants.{Refused, Memory}
use Rattle.tp_syntax.specs.declared.byte.Kind.TheVariants.{Letter, Digit, Quote, Blank, Other}
use Rattle.tp_syntax.specs.Byte.{is_printable}
use Rattle.tp_syntax.specs.Lexeme.{Lexeme, name, word, number, text, symbol, PlacedLexeme}
use Rattle.tp_syntax.specs.Spelling.{Run, doubled}
use Rattle.tp_syntax.specs.Cut.{Piece, blank, line_comment, block_comment, token, piece_bytes, IsPiece, Cuts, tokens_in, newlines}
use Rattle.tp_syntax.specs.TextFaults.{AreWithinLimits, GoodTextsAreAccepted, HasOpenText, HasNoTextByte, IsFaulty, IsWithinLimits}
use Rattle.tp_syntax.proofs.LongestTokens.{closed, form, quote_is}
use Rattle.tp_syntax.proofs.UniqueTokens.{heads, tails, piece_same, piece_some}
use Rattle.tp_syntax.proofs.TokenFaults.{front_kind, piece_front}

-- ---- a text that isn't closed

broken_byte : (b : ℕ) (more x : List ℕ) → HasNoTextByte more → more ≡ b ∷ x → is_printable b ≡ true → ⊥
broken_byte b [] x h e p = cc
broken_byte b (c ∷ more) x h e p =
    let clash : true ≡ false = sym p ∙ ap is_printable (sym (heads c b more x e)) ∙ h in
    cc

-- where a text that isn't closed seems to end, another one begins that isn't
open_on : (t w more m : List ℕ) → Run is_printable t → Run is_printable w → HasNoTextByte more → doubled t ++ more ≡ closed w ++ m → HasOpenText m
open_on [] [] more m r q h e = absurd (broken_byte 34 more m h e refl)
open_on [] (b ∷ w) more m r q h e = elim (form b w) [
  | inl (eq, f) ↦ absurd (broken_byte 34 more (34 ∷ (closed w ++ m)) h (e ∙ ap (λ (x : List ℕ). x ++ m) f) refl)
  | inr (ne, f) ↦ absurd (broken_byte b more (closed w ++ m) h (e ∙ ap (λ (x : List ℕ). x ++ m) f) q.0)
]
open_on (a ∷ t) [] more m r q h e = elim (double a t) [
  | inl (eq, f) ↦
      let e' : 34 ∷ 34 ∷ (doubled t ++ more) ≡ 34 ∷ m = ap (λ (x : List ℕ). x ++ more) (sym f) ∙ e in
      (doubled t ++ more, sym (tails 34 34 (34 ∷ (doubled t ++ more)) m e'), (t, more, refl, r.1, h))
  | inr (ne, f) ↦ absurd (ne (heads a 34 (doubled t ++ more) m (ap (λ (x : List ℕ). x ++ more) (sym f) ∙ e)))
]
  where
    double : (a : ℕ) (t : List ℕ) → ((a ≡ 34) × (doubled (a ∷ t) ≡ 34 ∷ 34 ∷ doubled t)) ⊎ ((a ≢ 34) × (doubled (a ∷ t) ≡ a ∷ doubled t))
    double a t = elim (eqb_tells a 34) [
      | inl (test, eq) ↦ inl (eq, rw test refl)
      | inr (test, ne) ↦ inr (ne, rw test refl)
    ]
open_on (a ∷ t) (b ∷ w) more m r q h e = elim (eqb_tells a 34) [
  | inl (ta, ea) ↦
      let fa : doubled (a ∷ t) ≡ 34 ∷ 34 ∷ doubled t = rw ta refl in
      elim (form b w) [
        | inl (eb, fb) ↦
            let e' : 34 ∷ 34 ∷ (doubled t ++ more) ≡ 34 ∷ 34 ∷ (closed w ++ m) = ap (λ (x : List ℕ). x ++ more) (sym fa) ∙ e ∙ ap (λ (x : List ℕ). x ++ m) fb in
            open_on t w more m r.1 q.1 h (tails 34 34 (doubled t ++ more) (closed w ++ m) (tails 34 34 (34 ∷ (doubled t ++ more)) (34 ∷ (closed w ++ m)) e'))
        | inr (ne, fb) ↦
            absurd (ne (sym (heads 34 b (34 ∷ (doubled t ++ more)) (closed w ++ m)
            (ap (λ (x : List ℕ). x ++ more) (sym fa) ∙ e ∙ ap (λ (x : List ℕ). x ++ m) fb))))
      ]
  | inr (ta, na) ↦
      let fa : doubled (a ∷ t) ≡ a ∷ doubled t = rw ta refl in
      elim (form b w) [
        | inl (eb, fb) ↦
            absurd (na (heads a 34 (doubled t ++ more) (34 ∷ (closed w ++ m)) (ap (λ (x : List ℕ). x ++ more) (sym fa) ∙ e ∙ ap (λ (x : List ℕ). x ++ m) fb)))
        | inr (ne, fb) ↦
            let e' : a ∷ (doubled t ++ more) ≡ b ∷ (closed w ++ m) = ap (λ (x : List ℕ). x ++ more) (sym fa) ∙ e ∙ ap (λ (x : List ℕ). x ++ m) fb in
            open_on t w more m r.1 q.1 h (tails a b (doubled t ++ more) (closed w ++ m) e')
      ]
]

-- the piece at a quote is a text
open_piece : (p : Piece) (m bytes : List ℕ) → IsPiece p m → bytes ≡ piece_bytes p ++ m → HasOpenText bytes → HasOpenText m
unfolding front_kind
open_piece (blank a) m bytes i e o = let clash : Quote ≡ Blank = sym quote_is ∙ piece_front (blank a) m 34 o.0 i (sym o.1 ∙ e) in absurd cc
open_piece (line_comment cs) m bytes i e o = let clash : Quote ≡ Other = sym quote_is ∙ piece_front (line_comment cs) m 34 o.0 i (sym o.1 ∙ e) in absurd cc
open_piece (block_comment cs) m bytes i e o = let clash : Quote ≡ Other = sym quote_is ∙ piece_front (block_comment cs) m 34 o.0 i (sym o.1 ∙ e) in absurd cc
open_piece (token (name n) cs) m bytes i e o = let clash : Quote ≡ Letter = sym quote_is ∙ piece_front (token (name n) cs) m 34 o.0 i (sym o.1 ∙ e) in absurd cc
open_piece (token (word w) cs) m bytes i e o = let clash : Quote ≡ Letter = sym quote_is ∙ piece_front (token (word w) cs) m 34 o.0 i (sym o.1 ∙ e) in absurd cc
open_piece (token (number n) cs) m bytes i e o =
    let clash : Quote ≡ Digit = sym quote_is ∙ piece_front (token (number n) cs) m 34 o.0 i (sym o.1 ∙ e) in absurd cc
open_piece (token (symbol x) cs) m bytes i e o =
    let clash : Quote ≡ Other = sym quote_is ∙ piece_front (token (symbol x) cs) m 34 o.0 i (sym o.1 ∙ e) in absurd cc
open_piece (token (text w) cs) m bytes i e o =
    let whole : 34 ∷ o.0 ≡ 34 ∷ (closed w ++ m) = sym o.1 ∙ e ∙ ap (λ (x : List ℕ). x ++ m) i.0.0 in
    let behind : o.0 ≡ closed w ++ m = tails 34 34 o.0 (closed w ++ m) whole in
    open_on o.2.0 w o.2.1 m o.2.3 i.0.1 o.2.4 (sym o.2.2 ∙ behind)

-- such a text has no tokens
open_uncut : (ps : List Piece) (bytes : List ℕ) → Cuts ps bytes [] → HasOpenText bytes → ⊥
open_uncut [] bytes h o = let clash : 34 ∷ o.0 ≡ [] = sym o.1 ∙ h in cc
open_uncut (p ∷ ps) bytes h o = open_uncut ps h.0 h.3 (open_piece p h.0 bytes h.2 h.1 o)

-- ---- any fault

-- what is left after the first pieces is cut as the whole is
cut_rest : (ps qs : List Piece) (bytes rest : List ℕ) → Cuts ps bytes rest → Cuts qs bytes [] → (us : List Piece) × Cuts us rest [] × (qs ≡ ps ++ us)
cut_rest [] qs bytes rest h i = (qs, subst (λ (z : List ℕ). Cuts qs z []) h i, refl)
cut_rest (p ∷ ps) [] bytes rest h i = absurd (piece_some p h.0 h.2 (sym h.1 ∙ i))
cut_rest (p ∷ ps) (q ∷ qs) bytes rest h i =
    let here : piece_bytes p ++ h.0 ≡ piece_bytes q ++ i.0 = sym h.1 ∙ i.1 in
    let first : p ≡ q = piece_same p q h.0 i.0 h.2 i.2 here in
    let same : i.0 ≡ h.0 = sym (append_cancel_left (piece_bytes q) h.0 i.0 (ap (λ (z : Piece). piece_bytes z ++ h.0) (sym first) ∙ here)) in
    let on = cut_rest ps qs h.0 rest h.3 (subst (λ (z : List ℕ). Cuts qs z []) same i.3) in
    (on.0, on.1, ap (λ (z : Piece). z ∷ qs) (sym first) ∙ ap (λ (z : List Piece). p ∷ z) on.2)

limit_at : (n : ℕ) (ps us : List Piece) (l : Lexeme) (bs : List ℕ) → AreWithinLimits (tokens_in n (ps ++ token l bs ∷ us)) → IsWithinLimits l
limit_at n [] us l bs h = h.0
limit_at n (blank b ∷ ps) us l bs h = limit_at (n + newlines (piece_bytes (blank b))) ps us l bs h
limit_at n (line_comment cs ∷ ps) us l bs h = limit_at (n + newlines (piece_bytes (line_comment cs))) ps us l bs h
limit_at n (block_comment cs ∷ ps) us l bs h = limit_at (n + newlines (piece_bytes (block_comment cs))) ps us l bs h
limit_at n (token m cs ∷ ps) us l bs h = limit_at (n + newlines (piece_bytes (token m cs))) ps us l bs h.1

no_fault : (ps us : List Piece) (rest : List ℕ) (r : TextRule) → Cuts us rest [] → AreWithinLimits (tokens_in 1 (ps ++ us)) → IsFaulty r rest → ⊥
no_fault ps [] rest r h w f = f.0 h
no_fault ps (u ∷ us) rest r h w f = elim f.1 [
  | inl (at, nothing) ↦ nothing u h.0 h.2 h.1
  | inr (inl (at, unclosed)) ↦ open_uncut (u ∷ us) rest h unclosed
  | inr (inr (why, (l, size, at, beyond))) ↦
      let here : piece_bytes u ++ h.0 ≡ take size rest ++ drop size rest = sym h.1 ∙ sym (take-append-drop size rest) in
      let same : u ≡ token l (take size rest) = piece_same u (token l (take size rest)) h.0 (drop size rest) h.2 (at.spelled, at.longest) here in
      beyond (limit_at 1 ps us l (take size rest) (subst (λ (z : Piece). AreWithinLimits (tokens_in 1 (ps ++ z ∷ us))) same w))
]

pub good_texts_are_accepted : GoodTextsAreAccepted
good_texts_are_accepted whole ts (Memory m) h w short f = tt
good_texts_are_accepted whole ts (Refused r n) h w short f = elim f [
  | inl long ↦ absurd (omega (arith, long.0))
  | inr at ↦
      let first = at.1 in
      let on = cut_rest first.0 h.0 whole first.1 first.2 h.1 in
      let all : AreWithinLimits (tokens_in 1 (first.0 ++ on.0)) =
      subst (λ (z : List Piece). AreWithinLimits (tokens_in 1 z)) on.2 (subst (λ (z : List PlacedLexeme). AreWithinLimits z) h.2 w) in
      no_fault first.0 on.0 first.1 r on.1 all first.5
]
