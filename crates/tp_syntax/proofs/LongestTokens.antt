-- Each token is the longest one at its place.
use Rattle.std.proofs.Common.{◌≡◌, ℕ, suc, ◌≤◌, zero-le, suc-le-suc, true, false, List, [], ◌∷◌, ◌++◌, length, take, drop, get_or, refl, ap, sym, ◌∙◌, arith, one-add, inl, inr, ◌⊎◌, ◌≢◌, ◌==◌, length-append}
use Rattle.std.proofs.lemmas.Bool.Decides.{eqb_tells}
use Rattle.std.specs.List.{prefix_len}
use Rattle.tp_syntax.specs.declared.token.Symbol.{Symbol}
use Rattle.tp_syntax.specs.declared.token.Symbol.TheVariants as s
use Rattle.tp_syntax.specs.Lexeme.{Lexeme, name, word, number, text, symbol}
use Rattle.tp_syntax.specs.declared.byte.Kind.{Kind}
use Rattle.tp_syntax.specs.declared.byte.Kind.TheVariants.{Letter, Digit, Quote, Other}
use Rattle.tp_syntax.specs.Byte.{byte_kind, is_word_byte, is_digit, is_digit_kind, in_word, is_quote}
use Rattle.tp_syntax.specs.Cut.{StopsAt, IsLongest, BeginsAs, TokenAt}
use Rattle.tp_syntax.specs.Spelling.{Run, IsWord, IsNumber, IsSpelled, symbol_spelling, doubled, value_on}
use Rattle.tp_syntax.proofs.LongestByteRuns.{run_longest, run_front, run_stops}
use Rattle.std.proofs.lemmas.List.Sums.{prefix_len-le-length}

abbrev pub first_kind : Lexeme → Kind
first_kind (name n) = Letter
first_kind (word w) = Letter
first_kind (number n) = Digit
first_kind (text t) = Quote
first_kind (symbol s) = Other

symbol_kind : (x : Symbol) (b : ℕ) (bs : List ℕ) → b ∷ bs ≡ symbol_spelling x → byte_kind b ≡ Other
unfolding byte_kind
symbol_kind s.LeftBrace b bs e = let at : b ≡ 123 = cc in rw at
symbol_kind x b bs e = let at : b ≡ get_or (symbol_spelling x) 0 0 = ap (λ (z : List ℕ). get_or z 0 0) e in rw at

digit_from : (k : Kind) → is_digit_kind k ≡ true → k ≡ Digit
digit_from Digit e = refl
digit_from k e = absurd cc

quote_kind : (b : ℕ) → b ≡ 34 → byte_kind b ≡ Quote
unfolding byte_kind
quote_kind b e = rw e

pub spelled_kind : (l : Lexeme) (b : ℕ) (bs : List ℕ) → IsSpelled l (b ∷ bs) → byte_kind b ≡ first_kind l
spelled_kind (name n) b bs h = h.0.0
spelled_kind (word w) b bs h = h.0.0
spelled_kind (number n) b bs h = digit_from (byte_kind b) h.0.0
spelled_kind (text t) b bs h = let e = h.0 in quote_kind b (cc)
spelled_kind (symbol x) b bs h = symbol_kind x b bs h

pub word_run : (bs : List ℕ) → IsWord bs → Run is_word_byte bs
word_run [] h = absurd h
word_run (b ∷ bs) h = (ap in_word h.0, h.1)

pub number_run : (bs : List ℕ) → IsNumber bs → Run is_digit bs
number_run [] h = absurd h
number_run (b ∷ bs) h = (h.0, h.1)

letter_run : (l : Lexeme) (bs : List ℕ) → first_kind l ≡ Letter → IsSpelled l bs → Run is_word_byte bs
letter_run (name n) bs k h = word_run bs h.0
letter_run (word w) bs k h = word_run bs h.0
letter_run l bs k h = absurd cc

digit_run : (l : Lexeme) (bs : List ℕ) → first_kind l ≡ Digit → IsSpelled l bs → IsNumber bs
digit_run (number n) bs k h = h.0
digit_run l bs k h = absurd cc

pub word_longest : (b : ℕ) (bs rest : List ℕ) → byte_kind b ≡ Letter → StopsAt is_word_byte rest → IsLongest (b ∷ bs) rest
word_longest b bs rest k st l [] more sp e = zero-le
word_longest b bs rest k st l (c ∷ cs) more sp e =
    let same : b ≡ c = cc in
    let kind : first_kind l ≡ Letter = sym (spelled_kind l c cs sp) ∙ ap byte_kind (sym same) ∙ k in
    run_longest is_word_byte (b ∷ bs) (c ∷ cs) rest more (letter_run l (c ∷ cs) kind sp) st e

pub number_longest : (b : ℕ) (bs rest : List ℕ) → byte_kind b ≡ Digit → StopsAt is_digit rest → IsLongest (b ∷ bs) rest
number_longest b bs rest k st l [] more sp e = zero-le
number_longest b bs rest k st l (c ∷ cs) more sp e =
    let same : b ≡ c = cc in
    let kind : first_kind l ≡ Digit = sym (spelled_kind l c cs sp) ∙ ap byte_kind (sym same) ∙ k in
    run_longest is_digit (b ∷ bs) (c ∷ cs) rest more (number_run (c ∷ cs) (digit_run l (c ∷ cs) kind sp)) st e

-- ---- texts

abbrev pub closed : List ℕ → List ℕ
closed t = doubled t ++ 34 ∷ []

pub form : (b : ℕ) (bs : List ℕ) → ((b ≡ 34) × (closed (b ∷ bs) ≡ 34 ∷ 34 ∷ closed bs)) ⊎ ((b ≢ 34) × (closed (b ∷ bs) ≡ b ∷ closed bs))
form b bs = elim (eqb_tells b 34) [
  | inl (test, eq) ↦ inl (eq, rw test refl)
  | inr (test, ne) ↦ inr (ne, rw test refl)
]

no_quote : (rest xs : List ℕ) → StopsAt is_quote rest → rest ≡ 34 ∷ xs → ⊥
no_quote [] xs st e = cc
no_quote (b ∷ bs) xs st e =
    let at : b ≡ 34 = cc in
    let clash : true ≡ false = sym (ap (λ x. x == 34) at) ∙ st in
    cc

closed_some : (t : List ℕ) → 1 ≤ length (closed t)
closed_some t = simp length-append (omega arith)

closed_longest : (t u rest more : List ℕ) → StopsAt is_quote rest → closed t ++ rest ≡ closed u ++ more → length (closed u) ≤ length (closed t)
closed_longest t [] rest more st e = closed_some t
closed_longest [] (b ∷ bs) rest more st e = elim (form b bs) [
  | inl (eq, f) ↦ let e' : 34 ∷ rest ≡ 34 ∷ 34 ∷ (closed bs ++ more) = e ∙ ap (λ (x : List ℕ). x ++ more) f in
      absurd (no_quote rest (closed bs ++ more) st (cc))
  | inr (ne, f) ↦ let e' : 34 ∷ rest ≡ b ∷ (closed bs ++ more) = e ∙ ap (λ (x : List ℕ). x ++ more) f in
      let same : b ≡ 34 = cc in absurd (ne same)
]
closed_longest (a ∷ as') (b ∷ bs) rest more st e = elim (form a as') [
  | inl (eqa, fa) ↦ elim (form b bs) [
    | inl (eqb', fb) ↦
        let e' : 34 ∷ 34 ∷ (closed as' ++ rest) ≡ 34 ∷ 34 ∷ (closed bs ++ more) =
        ap (λ (x : List ℕ). x ++ rest) (sym fa) ∙ e ∙ ap (λ (x : List ℕ). x ++ more) fb in
        let ih = closed_longest as' bs rest more st (cc) in
        let la : length (closed (a ∷ as')) ≡ suc (suc (length (closed as'))) = ap length fa in
        let lb : length (closed (b ∷ bs)) ≡ suc (suc (length (closed bs))) = ap length fb in
        rw (la, lb) (suc-le-suc (suc-le-suc ih))
    | inr (ne, fb) ↦
        let e' : 34 ∷ 34 ∷ (closed as' ++ rest) ≡ b ∷ (closed bs ++ more) = ap (λ (x : List ℕ). x ++ rest) (sym fa) ∙ e ∙ ap (λ (x : List ℕ). x ++ more) fb in
        let same : b ≡ 34 = cc in absurd (ne same)
  ]
  | inr (nea, fa) ↦ elim (form b bs) [
    | inl (eqb', fb) ↦
        let e' : a ∷ (closed as' ++ rest) ≡ 34 ∷ 34 ∷ (closed bs ++ more) = ap (λ (x : List ℕ). x ++ rest) (sym fa) ∙ e ∙ ap (λ (x : List ℕ). x ++ more) fb in
        let same : a ≡ 34 = cc in absurd (nea same)
    | inr (ne, fb) ↦
        let e' : a ∷ (closed as' ++ rest) ≡ b ∷ (closed bs ++ more) = ap (λ (x : List ℕ). x ++ rest) (sym fa) ∙ e ∙ ap (λ (x : List ℕ). x ++ more) fb in
        let ih = closed_longest as' bs rest more st (cc) in
        let la : length (closed (a ∷ as')) ≡ suc (length (closed as')) = ap length fa in
        let lb : length (closed (b ∷ bs)) ≡ suc (length (closed bs)) = ap length fb in
        rw (la, lb) (suc-le-suc ih)
  ]
]

pub quote_is : byte_kind 34 ≡ Quote
unfolding byte_kind
quote_is = refl

text_form : (l : Lexeme) (bs : List ℕ) → first_kind l ≡ Quote → IsSpelled l bs → (u : List ℕ) × (bs ≡ 34 ∷ closed u)
text_form (text t) bs k h = (t, h.0)
text_form l bs k h = absurd cc

pub text_longest : (t rest : List ℕ) → StopsAt is_quote rest → IsLongest (34 ∷ (doubled t ++ 34 ∷ [])) rest
text_longest t rest st l [] more sp e = zero-le
text_longest t rest st l (c ∷ cs) more sp e =
    let same : c ≡ 34 = cc in
    let kind : first_kind l ≡ Quote = sym (spelled_kind l c cs sp) ∙ ap byte_kind same ∙ quote_is in
    let found = text_form l (c ∷ cs) kind sp in
    let tails : cs ≡ closed found.0 = let f = found.1 in cc in
    let e' : closed t ++ rest ≡ closed found.0 ++ more = (let e2 : closed t ++ rest ≡ cs ++ more = cc in e2 ∙ ap (λ (x : List ℕ). x ++ more) tails) in
    let ih = closed_longest t found.0 rest more st e' in
    rw tails (suc-le-suc ih)

-- a word at the front
word_front : (b : ℕ) (bs : List ℕ) → byte_kind b ≡ Letter → prefix_len is_word_byte (b ∷ bs) ≡ suc (prefix_len is_word_byte bs)
word_front b bs k = let yes : is_word_byte b ≡ true = ap in_word k in rw (yes, one-add) refl

pub word_at : (bytes : List ℕ) (n : ℕ) (l : Lexeme) → BeginsAs Letter bytes → n ≡ prefix_len is_word_byte bytes →
    (IsWord (take n bytes) → IsSpelled l (take n bytes)) → TokenAt bytes l n
word_at [] n l st e h = absurd st
word_at (b ∷ bs) n l st e h =
    let size : n ≡ suc (prefix_len is_word_byte bs) = e ∙ word_front b bs st in
    let spelled : IsWord (take (suc (prefix_len is_word_byte bs)) (b ∷ bs)) = (st, run_front is_word_byte bs) in
    record {
      some = omega arith;
      within = omega (arith, prefix_len-le-length is_word_byte bs);
      spelled = h (rw size spelled);
      longest = rw size (word_longest b (take (prefix_len is_word_byte bs) bs) (drop (prefix_len is_word_byte bs) bs) st (run_stops is_word_byte bs));
    }

-- a number at the front
number_front : (b : ℕ) (bs : List ℕ) → byte_kind b ≡ Digit → prefix_len is_digit (b ∷ bs) ≡ suc (prefix_len is_digit bs)
number_front b bs k = let yes : is_digit b ≡ true = ap is_digit_kind k in rw (yes, one-add) refl

pub number_at : (bytes : List ℕ) (n v : ℕ) → BeginsAs Digit bytes → get_or bytes 0 0 ≢ 48 → n ≡ prefix_len is_digit bytes → v ≡ value_on 0 (take n bytes)
    → TokenAt bytes (number v) n
number_at [] n v st nz e h = absurd st
number_at (b ∷ bs) n v st nz e h =
    let size : n ≡ suc (prefix_len is_digit bs) = e ∙ number_front b bs st in
    let spelled : IsNumber (take (suc (prefix_len is_digit bs)) (b ∷ bs)) = (ap is_digit_kind st, run_front is_digit bs, λ z. absurd (nz z)) in
    record {
      some = omega arith;
      within = omega (arith, prefix_len-le-length is_digit bs);
      spelled = (rw size spelled, h);
      longest = rw size (number_longest b (take (prefix_len is_digit bs) bs) (drop (prefix_len is_digit bs) bs) st (run_stops is_digit bs));
    }
