-- The name that a `for` binds is read as any name, and is read again.
use Rattle.std.proofs.Common.{◌≡◌, ℕ, true, List, ◌∷◌, Option, Some, None, map, refl, sym, subst, ◌∙◌}
use Rattle.tp_syntax.specs.Lexeme.{Lexeme, PlacedLexeme, name, placed_lexeme}
use Rattle.std.proofs.lemmas.Slice.Eq.{bytes_eq-Decides}
use Rattle.std.specs.Str.{bytes_eq}
use Rattle.tp_syntax.specs.declared.token.Placed.{Placed}
use Rattle.tp_syntax.specs.declared.stuck.Stuck.{Stuck}
use Rattle.tp_syntax.specs.Item.{token, a_name, accepts, binds, this_name, next}
use Rattle.tp_syntax.specs.Reading.{Tree, leaf, Reads, Fails, reads_token, fails_memory, fails_token}
use Rattle.tp_syntax.proofs.StepsOfReading.{parsing, skipped}

-- a name is read as one that is bound
binds_names : (l : Option Lexeme) → accepts binds l ≡ accepts a_name l
binds_names None = refl
binds_names (Some (name n)) = refl
binds_names (Some l) = refl

pub bound_read : {ts rest : List PlacedLexeme} {t : Tree} → Reads (token a_name) ts t rest → Reads (token binds) ts t rest
bound_read (reads_token {p = p} e) = reads_token (binds_names (Some p.token) ∙ e)

pub bound_fails : {ts : List PlacedLexeme} {e : Stuck} → Fails (token a_name) ts e → Fails (token binds) ts e
bound_fails fails_memory = fails_memory
bound_fails (fails_token {ts = ts} e n) = fails_token (binds_names (next ts) ∙ e) n

-- a name that is the wanted one is read
pub same_read : {ps qs : List Placed} {p : Placed} {want found : List ℕ} → ps ≡ p ∷ qs → next (map placed_lexeme ps) ≡ Some (name found)
    → bytes_eq want found ≡ true → Reads (token (this_name want)) (map placed_lexeme ps) (leaf (name want)) (map placed_lexeme qs)
same_read {ps} {qs} {want = want} {found = found} e n b =
    let h : want ≡ found = (bytes_eq-Decides want found).0 b in
    subst (λ (x : List ℕ). Reads (token (this_name want)) (map placed_lexeme ps) (leaf (name x)) (map placed_lexeme qs)) (sym h) (skipped e n b)

pub ruleset turns_parsing = (parsing, bound_read, bound_fails)
