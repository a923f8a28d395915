-- Tokens that are cut after one of them, and the last that is kept.
use Rattle.std.proofs.Common.{◌≡◌, ℕ, zero, suc, ◌+◌, ◌<◌, List, [], ◌∷◌, ◌++◌, length, map, take, drop, get_or, set, ap, sym, ◌∙◌, arith}
use Rattle.std.proofs.lemmas.List.{take-map}
use Rattle.std.proofs.Math.Seq.{take-append-add}
use Rattle.tp_syntax.specs.declared.token.Placed.{Placed}
use Rattle.tp_syntax.specs.Lexeme.{PlacedLexeme, placed_lexeme}
use Rattle.tp_syntax.specs.Faults.{fault_line}

-- the tokens up to one of them
pub taken_to : (ps : List Placed) (passed rest : List PlacedLexeme) (t : PlacedLexeme) (k : ℕ) → map placed_lexeme ps ≡ passed ++ t ∷ rest → length passed ≡ k →
    map placed_lexeme (take (k + 1) ps) ≡ passed ++ t ∷ []
taken_to ps passed rest t k e all =
    sym (take-map placed_lexeme (k + 1) ps) ∙ ap (λ (ts : List PlacedLexeme). take (k + 1) ts) e ∙ ap (λ n. take (n + 1) (passed ++ t ∷ rest)) (sym all)
    ∙ take-append-add passed (t ∷ rest) 1

-- the last of them
pub last_kept : (ps : List Placed) (passed : List PlacedLexeme) (t : PlacedLexeme) (k : ℕ) (p : Placed) → map placed_lexeme ps ≡ passed ++ t ∷ [] → length passed ≡ k →
    p ≡ get_or ps k p → placed_lexeme p ≡ t
last_kept [] [] t k p e all at = absurd (cc e)
last_kept [] (u ∷ us) t k p e all at = absurd (cc e)
last_kept (q ∷ qs) [] t zero p e all at = let same : placed_lexeme q ≡ t = cc e in ap placed_lexeme at ∙ same
last_kept (q ∷ qs) [] t (suc k) p e all at = absurd (omega arith)
last_kept (q ∷ qs) (u ∷ us) t zero p e all at = absurd (omega arith)
last_kept (q ∷ qs) (u ∷ us) t (suc k) p e all at = let rest : map placed_lexeme qs ≡ us ++ t ∷ [] = cc e in last_kept qs us t k p rest (omega arith) at

-- another in its place
pub last_set : (ps : List Placed) (passed : List PlacedLexeme) (t : PlacedLexeme) (k : ℕ) (p : Placed) → map placed_lexeme ps ≡ passed ++ t ∷ [] → length passed ≡ k →
    map placed_lexeme (set ps k p) ≡ passed ++ placed_lexeme p ∷ []
last_set [] [] t k p e all = absurd (cc e)
last_set [] (u ∷ us) t k p e all = absurd (cc e)
last_set (q ∷ qs) [] t zero p e all = let none : map placed_lexeme qs ≡ [] = cc e in ap (λ (ts : List PlacedLexeme). placed_lexeme p ∷ ts) none
last_set (q ∷ qs) [] t (suc k) p e all = absurd (omega arith)
last_set (q ∷ qs) (u ∷ us) t zero p e all = absurd (omega arith)
last_set (q ∷ qs) (u ∷ us) t (suc k) p e all =
    let rest : map placed_lexeme qs ≡ us ++ t ∷ [] = cc e in
    let same : placed_lexeme q ≡ u = cc e in
    ap (λ (x : PlacedLexeme). x ∷ map placed_lexeme (set qs k p)) same ∙ ap (λ (ts : List PlacedLexeme). u ∷ ts) (last_set qs us t k p rest (omega arith))

-- the line of the token at a place
pub line_there : (ps : List Placed) (k last : ℕ) (p : Placed) → k < length ps → p ≡ get_or ps k p → p.line ≡ fault_line (drop k (map placed_lexeme ps)) last
line_there [] k last p within at = absurd (omega arith)
line_there (q ∷ qs) zero last p within at = ap (λ (x : Placed). x.line) at
line_there (q ∷ qs) (suc k) last p within at = line_there qs k last p (omega arith) at
