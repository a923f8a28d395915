-- A text has one list of tokens: at each place one piece can stand.
use Rattle.std.proofs.Common.{◌≡◌, ℕ, ◌≤◌, Bool, true, false, List, [], ◌∷◌, ◌++◌, length, get_or, refl, ap, sym, ◌∙◌, subst, arith, inl, inr, append_assoc, if◌then◌else◌, Option, Some, None}
use Rattle.std.proofs.lemmas.List.{append_cancel_left}
use Rattle.std.specs.Str.{bytes_eq}
use Rattle.tp_syntax.specs.declared.token.Symbol.{Symbol}
use Rattle.tp_syntax.specs.declared.token.Symbol.TheVariants as s
use Rattle.tp_syntax.specs.declared.byte.Kind.TheVariants.{Blank, Other}
use Rattle.tp_syntax.specs.Byte.{byte_kind, is_in_line}
use Rattle.tp_syntax.specs.Lexeme.{Lexeme, name, word, number, text, symbol}
use Rattle.tp_syntax.specs.Spelling.{Run, symbol_spelling, IsSpelled}
use Rattle.tp_syntax.specs.Cut.{Piece, blank, line_comment, block_comment, token, piece_bytes, ends_here, HasNoEnd, StopsAt, IsLongest, IsPiece, Cuts, tokens_in, TokensAreUnique}
use Rattle.tp_syntax.proofs.LongestByteRuns.{run_longest}
use Rattle.tp_syntax.proofs.LongestTokens.{first_kind, spelled_kind, closed, form}

pub heads : (a b : ℕ) (x y : List ℕ) → a ∷ x ≡ b ∷ y → a ≡ b
heads a b x y e = cc

pub tails : (a b : ℕ) (x y : List ℕ) → a ∷ x ≡ b ∷ y → x ≡ y
tails a b x y e = cc

-- fronts of one length are the same
fronts : (xs ys r s : List ℕ) → length xs ≡ length ys → xs ++ r ≡ ys ++ s → xs ≡ ys
fronts [] [] r s n e = refl
fronts [] (y ∷ ys) r s n e = absurd (omega arith)
fronts (x ∷ xs) [] r s n e = absurd (omega arith)
fronts (x ∷ xs) (y ∷ ys) r s n e =
    let first : x ≡ y = heads x y (xs ++ r) (ys ++ s) e in
    let few : length xs ≡ length ys = omega arith in
    let more : xs ≡ ys = fronts xs ys r s few (tails x y (xs ++ r) (ys ++ s) e) in
    cc

-- ---- the tokens of one spelling

-- the symbol that is spelled so
symbol_from : List ℕ → List Symbol → Symbol
symbol_from bs [] = s.Arrow
symbol_from bs (x ∷ xs) = if bytes_eq bs (symbol_spelling x) then x else symbol_from bs xs

all_symbols : List Symbol
all_symbols = s.LeftBrace ∷ s.RightBrace ∷ s.LeftParen ∷ s.RightParen ∷ s.LeftBracket ∷ s.RightBracket ∷ s.Comma ∷ s.Semicolon ∷ s.Colon ∷ s.Dot ∷ s.Question ∷
    s.Star ∷ s.Minus ∷ s.Less ∷ s.Plus ∷ s.DotDot ∷ s.Assign ∷ []

symbol_back : (x : Symbol) → symbol_from (symbol_spelling x) all_symbols ≡ x
unfolding symbol_from all_symbols
symbol_back s.LeftBrace = refl
symbol_back x = refl

symbols : (x y : Symbol) (bs : List ℕ) → bs ≡ symbol_spelling x → bs ≡ symbol_spelling y → x ≡ y
symbols x y bs p q = sym (symbol_back x) ∙ ap (λ (z : List ℕ). symbol_from z all_symbols) (sym p ∙ q) ∙ symbol_back y

-- texts of one spelling are the same
texts : (t u : List ℕ) → closed t ≡ closed u → t ≡ u
texts [] [] e = refl
texts [] (b ∷ bs) e = elim (form b bs) [
  | inl (eq, f) ↦ let e' : 34 ∷ [] ≡ 34 ∷ 34 ∷ closed bs = e ∙ f in let x : [] ≡ 34 ∷ closed bs = tails 34 34 [] (34 ∷ closed bs) e' in cc
  | inr (ne, f) ↦ absurd (ne (sym (heads 34 b [] (closed bs) (e ∙ f))))
]
texts (a ∷ rest) [] e = elim (form a rest) [
  | inl (eq, f) ↦ let e' : 34 ∷ 34 ∷ closed rest ≡ 34 ∷ [] = sym f ∙ e in let x : 34 ∷ closed rest ≡ [] = tails 34 34 (34 ∷ closed rest) [] e' in cc
  | inr (ne, f) ↦ absurd (ne (heads a 34 (closed rest) [] (sym f ∙ e)))
]
texts (a ∷ rest) (b ∷ bs) e = elim (form a rest) [
  | inl (eqa, fa) ↦ elim (form b bs) [
    | inl (eqb', fb) ↦
        let e' : 34 ∷ 34 ∷ closed rest ≡ 34 ∷ 34 ∷ closed bs = sym fa ∙ e ∙ fb in
        let more : rest ≡ bs = texts rest bs (tails 34 34 (closed rest) (closed bs) (tails 34 34 (34 ∷ closed rest) (34 ∷ closed bs) e')) in
        cc
    | inr (ne, fb) ↦ absurd (ne (sym (heads 34 b (34 ∷ closed rest) (closed bs) (sym fa ∙ e ∙ fb))))
  ]
  | inr (nea, fa) ↦ elim (form b bs) [
    | inl (eqb', fb) ↦ absurd (nea (heads a 34 (closed rest) (34 ∷ closed bs) (sym fa ∙ e ∙ fb)))
    | inr (ne, fb) ↦
        let e' : a ∷ closed rest ≡ b ∷ closed bs = sym fa ∙ e ∙ fb in
        let first : a ≡ b = heads a b (closed rest) (closed bs) e' in
        let more : rest ≡ bs = texts rest bs (tails a b (closed rest) (closed bs) e') in
        cc
  ]
]

-- no token is spelled by no bytes
pub spelled_some : (l : Lexeme) → IsSpelled l [] → ⊥
spelled_some (text t) h = let e = h.0 in cc
spelled_some (symbol s.LeftBrace) h = cc
spelled_some (symbol x) h = cc
spelled_some l h = h.0

-- tokens of one spelling that begin with the same kind of byte are the same
alike : (l m : Lexeme) (bs : List ℕ) → first_kind l ≡ first_kind m → IsSpelled l bs → IsSpelled m bs → l ≡ m
alike (name n) (name k) bs e h i = ap name (h.2 ∙ sym i.2)
alike (name n) (word w) bs e h i = let no : ◌≡◌ {A = Option _} None (Some w) = sym h.1 ∙ i.1 in cc
alike (word w) (name n) bs e h i = let no : ◌≡◌ {A = Option _} None (Some w) = sym i.1 ∙ h.1 in cc
alike (word w) (word v) bs e h i = let same : ◌≡◌ {A = Option _} (Some w) (Some v) = sym h.1 ∙ i.1 in cc
alike (number n) (number k) bs e h i = ap number (h.1 ∙ sym i.1)
alike (text t) (text u) bs e h i = ap text (texts t u (tails 34 34 (closed t) (closed u) (sym h.0 ∙ i.0)))
alike (symbol x) (symbol y) bs e h i = ap symbol (symbols x y bs h i)
alike l m bs e h i = cc

-- tokens of one spelling are the same
spelled_same : (l m : Lexeme) (bs : List ℕ) → IsSpelled l bs → IsSpelled m bs → l ≡ m
spelled_same l m [] h i = absurd (spelled_some l h)
spelled_same l m (b ∷ bs) h i = alike l m (b ∷ bs) (sym (spelled_kind l b bs h) ∙ spelled_kind m b bs i) h i

-- ---- the pieces at one place

pub slash_kind : byte_kind 47 ≡ Other
unfolding byte_kind
slash_kind = refl

not_blank : (l : Lexeme) → first_kind l ≡ Blank → ⊥
not_blank (name n) e = cc
not_blank l e = cc

-- a token and a byte of white space don't stand at one place
blank_token : (a : ℕ) (l : Lexeme) (bs x y : List ℕ) → byte_kind a ≡ Blank → IsSpelled l bs → a ∷ x ≡ bs ++ y → ⊥
blank_token a l [] x y k h e = spelled_some l h
blank_token a l (b ∷ bs) x y k h e = not_blank l (sym (spelled_kind l b bs h) ∙ ap byte_kind (sym (heads a b x (bs ++ y) e)) ∙ k)

blank_slash : (a : ℕ) (x y : List ℕ) → byte_kind a ≡ Blank → a ∷ x ≡ 47 ∷ y → ⊥
blank_slash a x y k e =
    let same : Blank ≡ Other = sym k ∙ ap byte_kind (heads a 47 x y e) ∙ slash_kind in
    cc

not_slash : (x : Symbol) (bs : List ℕ) → 47 ∷ bs ≡ symbol_spelling x → ⊥
not_slash s.LeftBrace bs e = let first : ◌≡◌ {A = ℕ} 47 123 = ap (λ (z : List ℕ). get_or z 0 0) e in omega arith
not_slash x bs e = let first : 47 ≡ get_or (symbol_spelling x) 0 0 = ap (λ (z : List ℕ). get_or z 0 0) e in omega arith

-- no token begins with `/`
slash_spelled : (l : Lexeme) (bs : List ℕ) → IsSpelled l (47 ∷ bs) → first_kind l ≡ Other → ⊥
slash_spelled (symbol x) bs h k = not_slash x bs h
slash_spelled l bs h k = cc

-- a token and a comment don't stand at one place
pub slash_token : (l : Lexeme) (bs x y : List ℕ) → IsSpelled l bs → 47 ∷ x ≡ bs ++ y → ⊥
slash_token l [] x y h e = spelled_some l h
slash_token l (b ∷ bs) x y h e =
    let first : b ≡ 47 = sym (heads 47 b x (bs ++ y) e) in
    let here : IsSpelled l (47 ∷ bs) = subst (λ (z : ℕ). IsSpelled l (z ∷ bs)) first h in
    slash_spelled l bs here (sym (spelled_kind l 47 bs here) ∙ slash_kind)

star_slash : ◌≡◌ {A = ℕ} 47 42 → ⊥
star_slash e = omega arith

-- two comments of different kinds don't stand at one place
slash_star : (x y : List ℕ) → 47 ∷ 47 ∷ x ≡ 47 ∷ 42 ∷ y → ⊥
slash_star x y e =
    star_slash (heads 47 42 x y (tails 47 47 (47 ∷ x) (42 ∷ y) e))

-- a run that stops where the bytes stop passing is one run
runs : (p : ℕ → Bool) (xs ys r s : List ℕ) → Run p xs → StopsAt p r → Run p ys → StopsAt p s → xs ++ r ≡ ys ++ s → xs ≡ ys
runs p xs ys r s a b c d e =
    let one : length ys ≤ length xs = run_longest p xs ys r s c b e in
    let other : length xs ≤ length ys = run_longest p ys xs s r a d (sym e) in
    fronts xs ys r s (omega arith) e

star_end : (c : ℕ) (cs r y : List ℕ) → HasNoEnd (c ∷ (cs ++ 42 ∷ [])) → 42 ∷ 47 ∷ r ≡ c ∷ (cs ++ 42 ∷ 47 ∷ y) → ⊥
star_end c [] r y h e =
    star_slash (heads 47 42 r (47 ∷ y) (tails 42 c (47 ∷ r) (42 ∷ 47 ∷ y) e))
star_end c (d ∷ ds) r y h e =
    let first : c ≡ 42 = sym (heads 42 c (47 ∷ r) (d ∷ (ds ++ 42 ∷ 47 ∷ y)) e) in
    let second : d ≡ 47 = sym (heads 47 d r (ds ++ 42 ∷ 47 ∷ y) (tails 42 c (47 ∷ r) (d ∷ (ds ++ 42 ∷ 47 ∷ y)) e)) in
    let ends : ends_here 42 (47 ∷ (ds ++ 42 ∷ [])) ≡ false =
    subst (λ (z : ℕ). ends_here 42 (z ∷ (ds ++ 42 ∷ [])) ≡ false) second (subst (λ (z : ℕ). ends_here z (d ∷ (ds ++ 42 ∷ [])) ≡ false) first h.0) in
    let clash : true ≡ false = ends in
    cc

-- the first `*/` is one place
comments : (bs cs r y : List ℕ) → HasNoEnd (bs ++ 42 ∷ []) → HasNoEnd (cs ++ 42 ∷ []) → bs ++ 42 ∷ 47 ∷ r ≡ cs ++ 42 ∷ 47 ∷ y → bs ≡ cs
comments [] [] r y h i e = refl
comments [] (c ∷ cs) r y h i e = absurd (star_end c cs r y i e)
comments (b ∷ bs) [] r y h i e = absurd (star_end b bs y r h (sym e))
comments (b ∷ bs) (c ∷ cs) r y h i e =
    let first : b ≡ c = heads b c (bs ++ 42 ∷ 47 ∷ r) (cs ++ 42 ∷ 47 ∷ y) e in
    let more : bs ≡ cs = comments bs cs r y h.1 i.1 (tails b c (bs ++ 42 ∷ 47 ∷ r) (cs ++ 42 ∷ 47 ∷ y) e) in
    cc

-- two longest tokens at one place are the same
longest_same : (l m : Lexeme) (bs cs r y : List ℕ) → IsSpelled l bs → IsLongest bs r → IsSpelled m cs → IsLongest cs y → bs ++ r ≡ cs ++ y
    → token l bs ≡ token m cs
longest_same l m bs cs r y h long i also e =
    let one : length cs ≤ length bs = long m cs y i e in
    let other : length bs ≤ length cs = also l bs r h (sym e) in
    let bytes : bs ≡ cs = fronts bs cs r y (omega arith) e in
    let same : l ≡ m = spelled_same l m cs (subst (λ (z : List ℕ). IsSpelled l z) bytes h) i in
    cc

-- at one place one piece can stand
pub piece_same : (p q : Piece) (r y : List ℕ) → IsPiece p r → IsPiece q y → piece_bytes p ++ r ≡ piece_bytes q ++ y → p ≡ q
piece_same (blank a) (blank b) r y h i e = ap blank (heads a b r y e)
piece_same (blank a) (line_comment bs) r y h i e = absurd (blank_slash a r (47 ∷ (bs ++ y)) h e)
piece_same (blank a) (block_comment bs) r y h i e = absurd (blank_slash a r (42 ∷ ((bs ++ 42 ∷ 47 ∷ []) ++ y)) h e)
piece_same (blank a) (token l bs) r y h i e = absurd (blank_token a l bs r y h i.0 e)
piece_same (line_comment bs) (blank b) r y h i e = absurd (blank_slash b y (47 ∷ (bs ++ r)) i (sym e))
piece_same (line_comment bs) (line_comment cs) r y h i e =
    ap line_comment (runs is_in_line bs cs r y h.0 h.1 i.0 i.1 (tails 47 47 (bs ++ r) (cs ++ y) (tails 47 47 (47 ∷ (bs ++ r)) (47 ∷ (cs ++ y)) e)))
piece_same (line_comment bs) (block_comment cs) r y h i e = absurd (slash_star (bs ++ r) ((cs ++ 42 ∷ 47 ∷ []) ++ y) e)
piece_same (line_comment bs) (token l cs) r y h i e = absurd (slash_token l cs (47 ∷ (bs ++ r)) y i.0 e)
piece_same (block_comment bs) (blank b) r y h i e = absurd (blank_slash b y (42 ∷ ((bs ++ 42 ∷ 47 ∷ []) ++ r)) i (sym e))
piece_same (block_comment bs) (line_comment cs) r y h i e = absurd (slash_star (cs ++ y) ((bs ++ 42 ∷ 47 ∷ []) ++ r) (sym e))
piece_same (block_comment bs) (block_comment cs) r y h i e =
    let behind : (bs ++ 42 ∷ 47 ∷ []) ++ r ≡ (cs ++ 42 ∷ 47 ∷ []) ++ y =
    tails 42 42 ((bs ++ 42 ∷ 47 ∷ []) ++ r) ((cs ++ 42 ∷ 47 ∷ []) ++ y) (tails 47 47 (42 ∷ ((bs ++ 42 ∷ 47 ∷ []) ++ r)) (42 ∷ ((cs ++ 42 ∷ 47 ∷ []) ++ y)) e) in
    ap block_comment (comments bs cs r y h i (sym (append_assoc bs (42 ∷ 47 ∷ []) r) ∙ behind ∙ append_assoc cs (42 ∷ 47 ∷ []) y))
piece_same (block_comment bs) (token l cs) r y h i e = absurd (slash_token l cs (42 ∷ ((bs ++ 42 ∷ 47 ∷ []) ++ r)) y i.0 e)
piece_same (token l bs) (blank b) r y h i e = absurd (blank_token b l bs y r i h.0 (sym e))
piece_same (token l bs) (line_comment cs) r y h i e = absurd (slash_token l bs (47 ∷ (cs ++ y)) r h.0 (sym e))
piece_same (token l bs) (block_comment cs) r y h i e = absurd (slash_token l bs (42 ∷ ((cs ++ 42 ∷ 47 ∷ []) ++ y)) r h.0 (sym e))
piece_same (token l bs) (token m cs) r y h i e = longest_same l m bs cs r y h.0 h.1 i.0 i.1 e

-- ---- the text as a whole

-- a piece has some bytes
pub piece_some : (p : Piece) (r : List ℕ) → IsPiece p r → piece_bytes p ++ r ≡ [] → ⊥
piece_some (token l []) r h e = spelled_some l h.0
piece_some p r h e = cc

-- a text is cut in one way
cuts_same : (ps qs : List Piece) (bytes : List ℕ) → Cuts ps bytes [] → Cuts qs bytes [] → ps ≡ qs
cuts_same [] [] bytes h i = refl
cuts_same [] (q ∷ qs) bytes h i = absurd (piece_some q i.0 i.2 (sym i.1 ∙ h))
cuts_same (p ∷ ps) [] bytes h i = absurd (piece_some p h.0 h.2 (sym h.1 ∙ i))
cuts_same (p ∷ ps) (q ∷ qs) bytes h i =
    let here : piece_bytes p ++ h.0 ≡ piece_bytes q ++ i.0 = sym h.1 ∙ i.1 in
    let first : p ≡ q = piece_same p q h.0 i.0 h.2 i.2 here in
    let rest : h.0 ≡ i.0 = append_cancel_left (piece_bytes q) h.0 i.0 (ap (λ (z : Piece). piece_bytes z ++ h.0) (sym first) ∙ here) in
    let more : ps ≡ qs = cuts_same ps qs i.0 (subst (λ (z : List ℕ). Cuts ps z []) rest h.3) i.3 in
    cc

pub tokens_are_unique : TokensAreUnique
tokens_are_unique whole a b h i = h.2 ∙ ap (λ (ps : List Piece). tokens_in 1 ps) (cuts_same h.0 i.0 whole h.1 i.1) ∙ sym i.2
