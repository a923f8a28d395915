-- Steps of reading, as rules.
use Rattle.std.proofs.Common.{cond, ◌≡◌, Bool, true, false, List, [], ◌∷◌, Option, Some, Result, Ok, Err, length, map, eq-eqb, refl, ap, sym, subst, ◌∙◌}
use Rattle.std.proofs.lemmas.Int.{to_z-of_z}
use Rattle.std.proofs.lemmas.List.{length-map}
use Rattle.std.specs.Result.{IsErrAnd}
use Rattle.std.proofs.lemmas.Result.{err_from_is_err_and}
use Rattle.tp_syntax.specs.declared.word.Word.{Word}
use Rattle.tp_syntax.specs.declared.token.Symbol.{Symbol}
use Rattle.tp_syntax.specs.Lexeme.{Lexeme, word, symbol, PlacedLexeme, placed_lexeme}
use Rattle.tp_syntax.specs.declared.token.Placed.{Placed}
use Rattle.tp_syntax.specs.declared.cursor.Parser.{Parser}
use Rattle.tp_syntax.specs.declared.stuck.Stuck.{Stuck}
use Rattle.tp_syntax.specs.declared.stuck.Stuck.TheVariants.{At, Memory}
use Rattle.tp_syntax.specs.Item.{Terminal, of_word, of_symbol, Item, token, accepts, Guarded, one_of, next}
use Rattle.tp_syntax.proofs.WantedTokensCome.{word_accepted, symbol_accepted}
use Rattle.tp_syntax.specs.Parsing.{Parses, left}
use Rattle.tp_syntax.specs.Reading.{Tree, leaf, node, Trees, none, more, Reads, ReadsChoice, ReadsAll, Fails, FailsChoice, FailsAll, reads_token, reads_rule, reads_this, reads_other, reads_else, reads_none, reads_more, fails_memory, fails_token, fails_rule, fails_this, fails_other, fails_else, fails_here, fails_later, noted}

-- the next token is read
pub skipped : {ps qs : List Placed} {p : Placed} {t : Terminal} {l : Lexeme} → ps ≡ p ∷ qs
    → next (map placed_lexeme ps) ≡ Some l → accepts t (Some l) ≡ true
    → Reads (token t) (map placed_lexeme ps) (leaf l) (map placed_lexeme qs)
skipped {ps} {qs} {p} {t} {l} e n a =
    let k : Some (placed_lexeme p).token ≡ Some l = ap (λ (xs : List Placed). next (map placed_lexeme xs)) (sym e) ∙ n in
    let m : (placed_lexeme p).token ≡ l = cc in
    subst (λ (xs : List Placed). Reads (token t) (map placed_lexeme xs) (leaf l) (map placed_lexeme qs)) (sym e)
    (subst (λ (x : Lexeme). Reads (token t) (placed_lexeme p ∷ map placed_lexeme qs) (leaf x) (map placed_lexeme qs)) m
    (reads_token (subst (λ (x : Lexeme). accepts t (Some x) ≡ true) (sym m) a)))

pub skipped_word : {ps qs : List Placed} {p : Placed} {x : Word} {r : Bool} → ps ≡ p ∷ qs
    → accepts (of_word x) (next (map placed_lexeme ps)) ≡ r → r ≡ true
    → Reads (token (of_word x)) (map placed_lexeme ps) (leaf (word x)) (map placed_lexeme qs)
skipped_word {ps} {qs} {p} {x} e a r = skipped e (word_accepted x _ (a ∙ r)) (eq-eqb _ _ refl)

pub skipped_symbol : {ps qs : List Placed} {p : Placed} {x : Symbol} {r : Bool} → ps ≡ p ∷ qs
    → accepts (of_symbol x) (next (map placed_lexeme ps)) ≡ r → r ≡ true
    → Reads (token (of_symbol x)) (map placed_lexeme ps) (leaf (symbol x)) (map placed_lexeme qs)
skipped_symbol {ps} {qs} {p} {x} e a r = skipped e (symbol_accepted x _ (a ∙ r)) (eq-eqb _ _ refl)

-- the number of tokens left
pub failed : (ps : List Placed) {t : Terminal} {r : Bool} → accepts t (next (map placed_lexeme ps)) ≡ r → r ≡ false
    → Fails (token t) (map placed_lexeme ps) (At (length ps))
failed ps e r = fails_token (e ∙ r) (sym (length-map ps placed_lexeme))

pub failed_now : (ps : List Placed) {t : Terminal} → accepts t (next (map placed_lexeme ps)) ≡ false
    → Fails (token t) (map placed_lexeme ps) (At (length ps))
failed_now ps e = fails_token e (sym (length-map ps placed_lexeme))

pub failed_as : (ps : List Placed) {t : Terminal} {e : Stuck} → e ≡ At (length ps) → accepts t (next (map placed_lexeme ps)) ≡ false
    → Fails (token t) (map placed_lexeme ps) e
failed_as ps {t} is refused = subst (λ (x : Stuck). Fails (token t) (map placed_lexeme ps) x) (sym is) (failed_now ps refused)

-- the first alternative that is left is taken, or it isn't
pub picks : {g : Guarded} {gs : List Guarded} {otherwise : List Item} {ts : List PlacedLexeme} {trees : Trees} {rest : List PlacedLexeme} {r : Bool}
    → one_of g.guards (next ts) ≡ r → r ≡ true → ReadsAll [] g.items ts trees rest → ReadsChoice (g ∷ gs) otherwise ts trees rest
picks d e h = reads_this (d ∙ e) h

pub passes : {g : Guarded} {gs : List Guarded} {otherwise : List Item} {ts : List PlacedLexeme} {trees : Trees} {rest : List PlacedLexeme} {r : Bool}
    → one_of g.guards (next ts) ≡ r → r ≡ false → ReadsChoice gs otherwise ts trees rest → ReadsChoice (g ∷ gs) otherwise ts trees rest
passes d e h = reads_other (d ∙ e) h

-- the alternative that is taken before this token
abbrev chosen : List Guarded → List Item → Option Lexeme → List Item
chosen [] otherwise l = otherwise
chosen (g ∷ gs) otherwise l = cond (one_of g.guards l) g.items (chosen gs otherwise l)

by_test : (g : Guarded) (gs : List Guarded) {otherwise : List Item} {ts : List PlacedLexeme} {trees : Trees} {rest : List PlacedLexeme} (b : Bool)
    → one_of g.guards (next ts) ≡ b → (ReadsAll [] (chosen gs otherwise (next ts)) ts trees rest → ReadsChoice gs otherwise ts trees rest)
    → ReadsAll [] (cond b g.items (chosen gs otherwise (next ts))) ts trees rest → ReadsChoice (g ∷ gs) otherwise ts trees rest
by_test g gs true e others h = reads_this e h
by_test g gs false e others h = reads_other e (others h)

by_next : (gs : List Guarded) {otherwise : List Item} {ts : List PlacedLexeme} {trees : Trees} {rest : List PlacedLexeme}
    → ReadsAll [] (chosen gs otherwise (next ts)) ts trees rest → ReadsChoice gs otherwise ts trees rest
by_next [] h = reads_else h
by_next (g ∷ gs) {ts = ts} h = by_test g gs (one_of g.guards (next ts)) refl (by_next gs) h

fails_test : (g : Guarded) (gs : List Guarded) {otherwise : List Item} {ts : List PlacedLexeme} {f : Stuck} (b : Bool)
    → one_of g.guards (next ts) ≡ b → (FailsAll [] (chosen gs otherwise (next ts)) ts f → FailsChoice gs otherwise ts f)
    → FailsAll [] (cond b g.items (chosen gs otherwise (next ts))) ts f → FailsChoice (g ∷ gs) otherwise ts f
fails_test g gs true e others h = fails_this e h
fails_test g gs false e others h = fails_other e (others h)

fails_next : (gs : List Guarded) {otherwise : List Item} {ts : List PlacedLexeme} {f : Stuck}
    → FailsAll [] (chosen gs otherwise (next ts)) ts f → FailsChoice gs otherwise ts f
fails_next [] h = fails_else h
fails_next (g ∷ gs) {ts = ts} h = fails_test g gs (one_of g.guards (next ts)) refl (fails_next gs) h

-- this word comes, or this symbol
pub by_word : (x : Word) {gs : List Guarded} {otherwise : List Item} {ts : List PlacedLexeme} {trees : Trees} {rest : List PlacedLexeme} {r : Bool}
    → accepts (of_word x) (next ts) ≡ r → r ≡ true → ReadsAll [] (chosen gs otherwise (Some (word x))) ts trees rest
    → ReadsChoice gs otherwise ts trees rest
by_word x {gs} a e h = by_next gs (rw (word_accepted x _ (a ∙ e)) h)

pub by_symbol : (x : Symbol) {gs : List Guarded} {otherwise : List Item} {ts : List PlacedLexeme} {trees : Trees} {rest : List PlacedLexeme} {r : Bool}
    → accepts (of_symbol x) (next ts) ≡ r → r ≡ true → ReadsAll [] (chosen gs otherwise (Some (symbol x))) ts trees rest
    → ReadsChoice gs otherwise ts trees rest
by_symbol x {gs} a e h = by_next gs (rw (symbol_accepted x _ (a ∙ e)) h)

pub fails_word : (x : Word) {gs : List Guarded} {otherwise : List Item} {ts : List PlacedLexeme} {f : Stuck} {r : Bool}
    → accepts (of_word x) (next ts) ≡ r → r ≡ true → FailsAll [] (chosen gs otherwise (Some (word x))) ts f
    → FailsChoice gs otherwise ts f
fails_word x {gs} a e h = fails_next gs (rw (word_accepted x _ (a ∙ e)) h)

-- what a function of the parser answers
pub parsed_ok : {A : Type 0} {i : Item} {view : A → Tree} {p q : Parser} {x : A}
    → Reads i (left p) (view x) (left q) → Parses i view p (Ok x) q
parsed_ok h = record { parsed = h }

pub parsed_err : {A : Type 0} {i : Item} {view : A → Tree} {p q : Parser} {e : Stuck}
    → Fails i (left p) e → Parses i view p (Err e) q
parsed_err h = record { parsed = h }

pub parsed_as : {A : Type 0} {i : Item} {view : A → Tree} {p q : Parser} {x : A} {t : Tree}
    → view x ≡ t → Reads i (left p) t (left q) → Parses i view p (Ok x) q
parsed_as {i = i} {p = p} {q = q} e h = record { parsed = subst (λ (u : Tree). Reads i (left p) u (left q)) (sym e) h }

-- what is handed on by `?`
pub handed : {A : Type 0} {i : Item} {view : A → Tree} {p q : Parser} {result : Result A Stuck} {e : Stuck}
    → IsErrAnd result (λ made. made ≡ e) → Fails i (left p) e → Parses i view p result q
handed {A} {i} {view} {p} {q} {result} {e} made h =
    let k = err_from_is_err_and result made in
    subst (λ (r : Result A Stuck). Parses i view p r q) (sym k.1)
    (parsed_err (subst (λ (x : Stuck). Fails i (left p) x) (sym k.2) h))

-- memory was refused
pub handed_memory : {A : Type 0} {i : Item} {view : A → Tree} {p q : Parser} {result : Result A Stuck}
    → IsErrAnd result (λ made. made ≡ Memory) → Parses i view p result q
handed_memory made = handed made fails_memory

pub ruleset parsing =
    (to_z-of_z, skipped, failed_now, failed_as, skipped_word, skipped_symbol, failed, parsed_ok, parsed_err, handed, handed_memory, reads_rule, reads_this, reads_other, reads_else, reads_none, reads_more, fails_rule, fails_this, fails_other, fails_else, fails_here, fails_later)
