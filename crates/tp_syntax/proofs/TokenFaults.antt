-- Where nothing can stand, or what stands is beyond the limits.
use Rattle.std.proofs.Common.{◌≡◌, ◌≢◌, ℕ, zero, suc, ◌+◌, ◌*◌, ◌-◌, ◌<◌, ◌≤◌, Bool, true, false, List, [], ◌∷◌, ◌++◌, length, take, drop, get_or, refl, ap, sym, ◌∙◌, subst, arith, inl, inr, ◌==◌, suc-le-suc, length-take, min}
use Rattle.std.proofs.lemmas.List.{take-append-drop}
use Rattle.std.specs.Str.{IsAscii}
use Rattle.std.specs.Prelude.{nat_le, if◌then◌else◌, ◌||◌}
use Rattle.std.proofs.lemmas.Bool.{le-leb, lt-leb}
use Rattle.std.proofs.lemmas.Bool.Decides.{leb_tells, eqb_tells}
use Rattle.tp_syntax.specs.declared.script_fault.TextRule.{TextRule}
use Rattle.tp_syntax.specs.declared.script_fault.TextRule.TheVariants.{Syntax, Limit}
use Rattle.tp_syntax.specs.declared.script_fault.ScriptFault.{ScriptFault}
use Rattle.tp_syntax.specs.declared.script_fault.ScriptFault.TheVariants.{Refused, Memory}
use Rattle.tp_syntax.specs.declared.byte.Kind.{Kind}
use Rattle.tp_syntax.specs.declared.byte.Kind.TheVariants.{Letter, Digit, Underscore, Quote, Blank, Other}
use Rattle.tp_syntax.specs.Byte.{byte_kind, is_word_byte, is_printable, between, in_word}
use Rattle.tp_syntax.specs.Lexeme.{Lexeme, name, word, number, text, symbol}
use Rattle.tp_syntax.specs.Spelling.{Run, doubled, IsSpelled, value_on}
use Rattle.tp_syntax.specs.Cut.{Piece, blank, line_comment, block_comment, token, piece_bytes, HasNoEnd, IsPiece, BeginsAs, TokenAt, Cuts, tokens_in, line_after}
use Rattle.tp_syntax.specs.TextFaults.{AreWithinLimits, IsRefused, HasNoSymbol, HasNoTextByte, IsFaultAt, IsFaulty, IsOpenText, IsUnclosed, IsWithinLimits}
use Rattle.tp_syntax.proofs.LongestTokens.{first_kind, spelled_kind}
use Rattle.tp_syntax.proofs.PieceAtFront.{ends, quote_byte}
use Rattle.tp_syntax.proofs.UniqueTokens.{heads, tails, spelled_some, slash_kind, slash_token}

-- the kind of a piece's first byte
unfoldable pub front_kind : Piece → Kind
front_kind (blank b) = Blank
front_kind (line_comment bs) = Other
front_kind (block_comment bs) = Other
front_kind (token l bs) = first_kind l

token_front : (l : Lexeme) (cs r : List ℕ) (b : ℕ) (bs : List ℕ) → IsSpelled l cs → b ∷ bs ≡ cs ++ r → byte_kind b ≡ first_kind l
token_front l [] r b bs h e = absurd (spelled_some l h)
token_front l (c ∷ cs) r b bs h e = ap byte_kind (heads b c bs (cs ++ r) e) ∙ spelled_kind l c cs h

pub piece_front : (p : Piece) (r : List ℕ) (b : ℕ) (bs : List ℕ) → IsPiece p r → b ∷ bs ≡ piece_bytes p ++ r → byte_kind b ≡ front_kind p
unfolding front_kind
piece_front (blank a) r b bs h e = ap byte_kind (heads b a bs r e) ∙ h
piece_front (line_comment cs) r b bs h e = ap byte_kind (heads b 47 bs (47 ∷ (cs ++ r)) e) ∙ slash_kind
piece_front (block_comment cs) r b bs h e = ap byte_kind (heads b 47 bs (42 ∷ ((cs ++ 42 ∷ 47 ∷ []) ++ r)) e) ∙ slash_kind
piece_front (token l cs) r b bs h e = token_front l cs r b bs h.0 e

some_bytes : (b : ℕ) (bs : List ℕ) → b ∷ bs ≢ []
some_bytes b bs e = cc

-- ---- an underscore

never : (p : Piece) → Underscore ≡ front_kind p → ⊥
unfolding front_kind
never (token (name n) bs) e = cc
never p e = cc

pub no_underscore : (bytes : List ℕ) → BeginsAs Underscore bytes → IsFaulty Syntax bytes
no_underscore [] h = absurd h
no_underscore (b ∷ bs) h = (some_bytes b bs, inl (refl, λ p r i e. never p (sym h ∙ piece_front p r b bs i e)))

-- ---- a byte of no symbol

other_piece : (p : Piece) (r : List ℕ) (b : ℕ) (bs : List ℕ) → byte_kind b ≡ Other → b ≢ 47 → HasNoSymbol (b ∷ bs) → IsPiece p r → b ∷ bs ≡ piece_bytes p ++ r → ⊥
unfolding front_kind
other_piece (blank a) r b bs k ne sy i e = let clash : Other ≡ Blank = sym k ∙ piece_front (blank a) r b bs i e in cc
other_piece (line_comment cs) r b bs k ne sy i e = ne (heads b 47 bs (47 ∷ (cs ++ r)) e)
other_piece (block_comment cs) r b bs k ne sy i e = ne (heads b 47 bs (42 ∷ ((cs ++ 42 ∷ 47 ∷ []) ++ r)) e)
other_piece (token (name n) cs) r b bs k ne sy i e = let clash : Other ≡ Letter = sym k ∙ piece_front (token (name n) cs) r b bs i e in cc
other_piece (token (word w) cs) r b bs k ne sy i e = let clash : Other ≡ Letter = sym k ∙ piece_front (token (word w) cs) r b bs i e in cc
other_piece (token (number n) cs) r b bs k ne sy i e = let clash : Other ≡ Digit = sym k ∙ piece_front (token (number n) cs) r b bs i e in cc
other_piece (token (text t) cs) r b bs k ne sy i e = let clash : Other ≡ Quote = sym k ∙ piece_front (token (text t) cs) r b bs i e in cc
other_piece (token (symbol x) cs) r b bs k ne sy i e = sy x r (e ∙ ap (λ (z : List ℕ). z ++ r) i.0)

pub no_symbol : (bytes : List ℕ) → BeginsAs Other bytes → get_or bytes 0 0 ≢ 47 → HasNoSymbol bytes → IsFaulty Syntax bytes
no_symbol [] h ne sy = absurd h
no_symbol (b ∷ bs) h ne sy = (some_bytes b bs, inl (refl, λ p r i e. other_piece p r b bs h ne sy i e))

-- ---- a slash

slash_piece : (p : Piece) (r bs : List ℕ) → ((x : List ℕ) → bs ≡ 47 ∷ x → ⊥) → ((x y : List ℕ) → bs ≡ 42 ∷ ((x ++ 42 ∷ 47 ∷ []) ++ y) → ⊥) → IsPiece p r
    → 47 ∷ bs ≡ piece_bytes p ++ r → ⊥
unfolding front_kind
slash_piece (blank a) r bs f g i e = let clash : Other ≡ Blank = sym slash_kind ∙ piece_front (blank a) r 47 bs i e in cc
slash_piece (line_comment cs) r bs f g i e = f (cs ++ r) (tails 47 47 bs (47 ∷ (cs ++ r)) e)
slash_piece (block_comment cs) r bs f g i e = g cs r (tails 47 47 bs (42 ∷ ((cs ++ 42 ∷ 47 ∷ []) ++ r)) e)
slash_piece (token l cs) r bs f g i e = slash_token l cs bs r i.0 e

slash_fault : (b : ℕ) (bs : List ℕ) → b ≡ 47 → ((x : List ℕ) → bs ≡ 47 ∷ x → ⊥) → ((x y : List ℕ) → bs ≡ 42 ∷ ((x ++ 42 ∷ 47 ∷ []) ++ y) → ⊥)
    → IsFaulty Syntax (b ∷ bs)
slash_fault b bs at f g = (some_bytes b bs, inl (refl, λ p r i e. slash_piece p r bs f g i (ap (λ (z : ℕ). z ∷ bs) (sym at) ∙ e)))

pub slash_alone : (bytes : List ℕ) → 0 < length bytes → length bytes < 2 → get_or bytes 0 0 ≡ 47 → IsFaulty Syntax bytes
slash_alone [] h lt at = absurd (omega arith)
slash_alone (b ∷ []) h lt at = slash_fault b [] at (λ x e. cc) (λ x y e. cc)
slash_alone (b ∷ c ∷ bs) h lt at = absurd (omega arith)

pub slash_other : (bytes : List ℕ) → 2 ≤ length bytes → get_or bytes 0 0 ≡ 47 → get_or bytes 1 0 ≢ 47 → get_or bytes 1 0 ≢ 42 → IsFaulty Syntax bytes
slash_other [] h at a b = absurd (omega arith)
slash_other (b ∷ []) h at x y = absurd (omega arith)
slash_other (b ∷ c ∷ bs) h at x y = slash_fault b (c ∷ bs) at (λ z e. x (heads c 47 bs z e)) (λ z r e. y (heads c 42 bs ((z ++ 42 ∷ 47 ∷ []) ++ r) e))

-- `*/` stands where it stands
end_stands : (x y : List ℕ) → HasNoEnd ((x ++ 42 ∷ 47 ∷ []) ++ y) → ⊥
end_stands [] y h = let clash : true ≡ false = h.0 in cc
end_stands (b ∷ x) y h = end_stands x y h.1

pub slash_open : (bytes : List ℕ) → 2 ≤ length bytes → get_or bytes 0 0 ≡ 47 → get_or bytes 1 0 ≡ 42 → HasNoEnd (drop 2 bytes) → IsFaulty Syntax bytes
slash_open [] h at star end = absurd (omega arith)
slash_open (b ∷ []) h at star end = absurd (omega arith)
slash_open (b ∷ c ∷ bs) h at star end =
    slash_fault b (c ∷ bs) at
    (λ z e. star_line (sym star ∙ heads c 47 bs z e))
    (λ z r e. end_stands z r (subst (λ (w : List ℕ). HasNoEnd w) (tails c 42 bs ((z ++ 42 ∷ 47 ∷ []) ++ r) e) end))
  where
    star_line : ◌≡◌ {A = ℕ} 42 47 → ⊥
    star_line q = omega arith

-- no `*/` stands in the bytes
pub no_end_all : (bytes : List ℕ) → ((k : ℕ) → suc k < length bytes → get_or bytes k 0 ≡ 42 → get_or bytes (suc k) 0 ≡ 47 → ⊥) → HasNoEnd bytes
no_end_all [] none = tt
no_end_all (b ∷ []) none = (refl, tt)
no_end_all (b ∷ c ∷ bs) none =
    let first : suc 0 < length (b ∷ c ∷ bs) = omega arith in
    (ends b c bs (none 0 first), no_end_all (c ∷ bs) (λ k lt. none (suc k) (suc-le-suc lt)))

-- ---- texts

broken_at : (bytes : List ℕ) (at : ℕ) → at < length bytes → is_printable (get_or bytes at 0) ≡ false → HasNoTextByte (drop at bytes)
broken_at [] at lt h = absurd (omega arith)
broken_at (b ∷ bs) zero lt h = h
broken_at (b ∷ bs) (suc at) lt h = let below : at < length bs = omega arith in broken_at bs at below h

broken_end : (bytes : List ℕ) (at : ℕ) → length bytes ≤ at → HasNoTextByte (drop at bytes)
broken_end [] zero h = tt
broken_end [] (suc at) h = tt
broken_end (b ∷ bs) zero h = absurd (omega arith)
broken_end (b ∷ bs) (suc at) h = let below : length bs ≤ at = omega arith in broken_end bs at below

parts : (bytes t : List ℕ) (at : ℕ) → take at bytes ≡ doubled t → bytes ≡ doubled t ++ drop at bytes
parts bytes t at e = sym (take-append-drop at bytes) ∙ ap (λ (x : List ℕ). x ++ drop at bytes) e

pub open_at : (bytes t : List ℕ) (at : ℕ) → take at bytes ≡ doubled t → Run is_printable t → at < length bytes → is_printable (get_or bytes at 0) ≡ false
    → IsOpenText bytes
open_at bytes t at e r lt h = (t, drop at bytes, parts bytes t at e, r, broken_at bytes at lt h)

pub open_end : (bytes t : List ℕ) (at : ℕ) → take at bytes ≡ doubled t → Run is_printable t → length bytes ≤ at → IsOpenText bytes
open_end bytes t at e r h = (t, drop at bytes, parts bytes t at e, r, broken_end bytes at h)

pub open_text : (bytes : List ℕ) → BeginsAs Quote bytes → IsOpenText (drop 1 bytes) → IsFaulty Syntax bytes
open_text [] h o = absurd h
open_text (b ∷ bs) h o = (some_bytes b bs, inr (inl (refl, (bs, ap (λ (z : ℕ). z ∷ bs) (quote_byte b h), o))))

-- ---- limits

-- digits make a number greater
grows : (v : ℕ) (ds : List ℕ) → v ≤ value_on v ds
grows v [] = omega arith
grows v (d ∷ ds) = omega (arith, grows (v * 10 + (d - 48)) ds)

pub too_great : (v : ℕ) (at : ℕ) (ds : List ℕ) → at < length ds → 922337203685477580 < v → 9223372036854775808 < value_on v (drop at ds)
too_great v at [] lt h = absurd (omega arith)
too_great v zero (d ∷ ds) lt h = omega (arith, grows (v * 10 + (d - 48)) ds)
too_great v (suc at) (d ∷ ds) lt h = let below : at < length ds = omega arith in too_great v at ds below h

pub beyond : (bytes : List ℕ) (l : Lexeme) (size : ℕ) → TokenAt bytes l size → (IsWithinLimits l → ⊥) → IsFaulty Limit bytes
beyond [] l size h no' = let some = h.some in let within = h.within in absurd (omega arith)
beyond (b ∷ bs) l size h no' = (some_bytes b bs, inr (inr (refl, (l, size, h, no'))))

pub beyond_greatest : (v : ℕ) → 9223372036854775808 < v → v ≤ 9223372036854775808 → ⊥
beyond_greatest v lt le = omega arith

pub beyond_longest : (bytes n : List ℕ) (size : ℕ) → n ≡ take size bytes → size ≤ length bytes → 64 < size → length n ≤ 64 → ⊥
beyond_longest bytes n size e within lt le = let all : length n ≡ min size (length bytes) = ap length e ∙ length-take size bytes in omega arith

-- ---- names are ASCII

not_word : (q w : Bool)
    → in_word (if false then Letter else (if false then Digit else (if false then Underscore else (if q then Quote else (if w then Blank else Other)))))
    ≡ true → ⊥
not_word true w e = cc
not_word false true e = cc
not_word false false e = cc

word_ascii : (b : ℕ) → is_word_byte b ≡ true → b < 128
unfolding byte_kind
word_ascii b h = elim (leb_tells 128 b) [
  | inr (test, lt) ↦ lt
  | inl (test, le) ↦
      let a : nat_le 97 b ≡ true = le-leb 97 b (omega arith) in
      let a' : nat_le b 122 ≡ false = lt-leb b 122 (omega arith) in
      let c : nat_le 65 b ≡ true = le-leb 65 b (omega arith) in
      let c' : nat_le b 90 ≡ false = lt-leb b 90 (omega arith) in
      let d : nat_le 48 b ≡ true = le-leb 48 b (omega arith) in
      let d' : nat_le b 57 ≡ false = lt-leb b 57 (omega arith) in
      elim (eqb_tells b 95) [
        | inl (test', eq) ↦ absurd (omega arith)
        | inr (test', ne) ↦ absurd (not_word (b == 34) (between 9 13 b || b == 32) (rw (a, a', c, c', d, d', test') at h))
      ]
]

pub run_ascii : (bs : List ℕ) → Run is_word_byte bs → IsAscii bs
run_ascii [] r = λ i. omega arith
run_ascii (b ∷ bs) r = λ i. each b bs r (run_ascii bs r.1) i
  where
    each : (b : ℕ) (bs : List ℕ) → Run is_word_byte (b ∷ bs) → IsAscii bs → IsAscii (b ∷ bs)
    each b bs r h zero = word_ascii b r.0
    each b bs r h (suc i) = h i

-- ---- what a fault says

pub refused_syntax : (bytes : List ℕ) (line : ℕ) (f : ScriptFault) → f ≡ Refused Syntax line → IsFaulty Syntax bytes → IsFaultAt bytes line f
refused_syntax bytes line f e h = subst (λ (z : ScriptFault). IsFaultAt bytes line z) (sym e) (refl, h)

pub refused_limit : (bytes : List ℕ) (line : ℕ) (f : ScriptFault) → f ≡ Refused Limit line → IsFaulty Limit bytes → IsFaultAt bytes line f
refused_limit bytes line f e h = subst (λ (z : ScriptFault). IsFaultAt bytes line z) (sym e) (refl, h)

pub refused_open : (bytes : List ℕ) (line : ℕ) (f : ScriptFault) → f ≡ Refused Syntax line → IsOpenText bytes → IsUnclosed bytes line f
refused_open bytes line f e h = subst (λ (z : ScriptFault). IsUnclosed bytes line z) (sym e) (refl, refl, h)

pub refused_text : (bytes : List ℕ) (line : ℕ) (f : ScriptFault) → BeginsAs Quote bytes → IsUnclosed (drop 1 bytes) line f → IsFaultAt bytes line f
refused_text bytes line (Refused r n) q h = (h.0, subst (λ (z : TextRule). IsFaulty z bytes) (sym h.1) (open_text bytes q h.2))
refused_text bytes line (Memory m) q h = tt

pub starts_kind : (k : Kind) (bytes : List ℕ) → 0 < length bytes → k ≡ byte_kind (get_or bytes 0 0) → BeginsAs k bytes
starts_kind k [] lt e = absurd (omega arith)
starts_kind k (b ∷ bs) lt e = sym e

pub first_fault : (whole rest : List ℕ) (ps : List Piece) (line : ℕ) (f : ScriptFault) → length whole ≤ 1048576 → Cuts ps whole rest
    → AreWithinLimits (tokens_in 1 ps) → line ≡ line_after 1 ps → IsFaultAt rest line f → IsRefused whole f
first_fault whole rest ps line (Refused r n) short cut limits at h = inr (short, (ps, rest, cut, limits, h.0 ∙ at, h.1))
first_fault whole rest ps line (Memory m) short cut limits at h = tt
