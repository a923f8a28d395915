-- What the grammar spells is read: one token tells the alternative.
use Rattle.std.proofs.Common.{◌≡◌, ◌⊎◌, inl, inr, ℕ, eqb-true, eq-eqb, Bool, true, false, cond, not, List, [], ◌∷◌, ◌++◌, Option, Some, None, refl, sym, subst, ◌∙◌, arith}
use Rattle.std.proofs.lemmas.Bool.{false≢true, or_left, or_right}
use Rattle.tp_syntax.specs.Lexeme.{Lexeme, name, word, number, text, symbol, PlacedLexeme}
use Rattle.tp_syntax.specs.Item.{Terminal, of_word, of_symbol, exactly, this_name, a_name, a_number, a_text, positive, negated, a_pattern, binds, same, finish, Item, token, rule, Guarded, accepts, one_of, next}
use Rattle.tp_syntax.specs.Rule.{Rule}
use Rattle.tp_syntax.specs.Reading.{Tree, Trees, Reads, ReadsChoice, ReadsAll, reads_token, reads_rule, reads_this, reads_other, reads_else, reads_none, reads_more, known, Among, among_this, among_other, among_else, Spells, spells_token, spells_rule, SpellsAll, spells_none, spells_more}
use Rattle.tp_syntax.proofs.FirstTokens.{nullable, firsts}
use Rattle.tp_syntax.proofs.FollowingTokens.{follows}
use Rattle.tp_syntax.proofs.TokensTellAlternatives.{class_of, code_of, class_ahead, code_ahead, is_whole, all_whole, is_kind, is_in, all_in, none_in, starts, may_be_nothing, follow_fits, items_fit, later_apart, guarded_fit}
use Rattle.tp_syntax.proofs.WrittenSetsAreRight.{rules_are_right}
use Rattle.tp_syntax.proofs.FlagsOfTests.{and_left, and_right, or_cases, or_second}

not_true : (b : Bool) → not b ≡ true → b ≡ true → ⊥
not_true true n e = false≢true n
not_true false n e = false≢true e

is_false : (b : Bool) → (b ≡ true → ⊥) → b ≡ false
is_false true h = absurd (h refl)
is_false false h = refl

-- the token that comes, or the end, is of one of these kinds
pub data Has : List Terminal → Option Lexeme → Type 0 where
  has_this : {t : Terminal} {ts : List Terminal} {o : Option Lexeme} → class_ahead o ≡ class_of t → code_ahead o ≡ code_of t → Has (t ∷ ts) o
  has_other : {t : Terminal} {ts : List Terminal} {o : Option Lexeme} → Has ts o → Has (t ∷ ts) o

-- what is accepted is of its kind, and the other way round
accepted : (t : Terminal) (o : Option Lexeme) → accepts t o ≡ true → (class_ahead o ≡ class_of t) × (code_ahead o ≡ code_of t)
accepted (of_word x) (Some (word y)) e = (refl, sym (eqb-true _ _ e))
accepted (of_symbol x) (Some (symbol y)) e = (refl, sym (eqb-true _ _ e))
accepted (exactly n) (Some (number m)) e = (refl, refl)
accepted (this_name n) (Some (name m)) e = (refl, refl)
accepted a_name (Some (name n)) e = (refl, refl)
accepted binds (Some (name n)) e = (refl, refl)
accepted a_number (Some (number n)) e = (refl, refl)
accepted a_text (Some (text bs)) e = (refl, refl)
accepted a_pattern (Some (text bs)) e = (refl, refl)
accepted positive (Some (number n)) e = (refl, refl)
accepted negated (Some (number n)) e = (refl, refl)
accepted finish None e = (refl, refl)
accepted _ _ e = absurd (false≢true e)

no_end : (l : Lexeme) → class_ahead (Some l) ≡ 6 → ⊥
no_end (name n) c = omega arith
no_end l c = omega arith

accepts_kind : (t : Terminal) (o : Option Lexeme) → is_whole t ≡ true → class_ahead o ≡ class_of t → code_ahead o ≡ code_of t → accepts t o ≡ true
accepts_kind (of_word x) (Some (word y)) p c d = eq-eqb _ _ (sym d)
accepts_kind (of_word x) _ p c d = absurd (omega arith)
accepts_kind (of_symbol x) (Some (symbol y)) p c d = eq-eqb _ _ (sym d)
accepts_kind (of_symbol x) _ p c d = absurd (omega arith)
accepts_kind a_name (Some (name n)) p c d = refl
accepts_kind a_name _ p c d = absurd (omega arith)
accepts_kind a_number (Some (number n)) p c d = refl
accepts_kind a_number _ p c d = absurd (omega arith)
accepts_kind a_text (Some (text n)) p c d = refl
accepts_kind a_text _ p c d = absurd (omega arith)
accepts_kind finish None p c d = refl
accepts_kind finish (Some l) p c d = absurd (no_end l c)
accepts_kind _ _ p c d = absurd (false≢true p)

kinds_same : (t u : Terminal) → is_kind t u ≡ true → (class_of t ≡ class_of u) × (code_of t ≡ code_of u)
kinds_same t u e = (eqb-true _ _ (and_left _ _ e), eqb-true _ _ (and_right _ _ e))

same_kinds : (t u : Terminal) → class_of t ≡ class_of u → code_of t ≡ code_of u → is_kind t u ≡ true
same_kinds t u c d = rw (eq-eqb _ _ c, eq-eqb _ _ d) refl

in_has : (t : Terminal) (us : List Terminal) {o : Option Lexeme} → is_in t us ≡ true → class_ahead o ≡ class_of t → code_ahead o ≡ code_of t → Has us o
in_has t [] e c d = absurd (false≢true e)
in_has t (u ∷ us) e c d =
    elim (or_cases (is_kind t u) (is_in t us) e) [
      | inl k ↦ has_this (c ∙ (kinds_same t u k).0) (d ∙ (kinds_same t u k).1)
      | inr k ↦ has_other (in_has t us k c d)
    ]

has_in : (t : Terminal) (us : List Terminal) {o : Option Lexeme} → Has us o → class_ahead o ≡ class_of t → code_ahead o ≡ code_of t → is_in t us ≡ true
has_in t [] h c2 d2 = elim h [ ]
has_in t (u ∷ us) (has_this c d) c2 d2 = or_left _ _ (same_kinds t u (sym c2 ∙ c) (sym d2 ∙ d))
has_in t (u ∷ us) (has_other h) c2 d2 = or_right (is_kind t u) _ (has_in t us h c2 d2)

all_has : (ts us : List Terminal) {o : Option Lexeme} → all_in ts us ≡ true → Has ts o → Has us o
all_has [] us e h = elim h [ ]
all_has (t ∷ ts) us e (has_this c d) = in_has t us (and_left _ _ e) c d
all_has (t ∷ ts) us e (has_other h) = all_has ts us (and_right (is_in t us) _ e) h

none_has : (ts us : List Terminal) {o : Option Lexeme} → none_in ts us ≡ true → Has ts o → Has us o → ⊥
none_has [] us e h k = elim h [ ]
none_has (t ∷ ts) us e (has_this c d) k = not_true (is_in t us) (and_left _ _ e) (has_in t us k c d)
none_has (t ∷ ts) us e (has_other h) k = none_has ts us (and_right (not (is_in t us)) _ e) h k

has_front : (ts us : List Terminal) {o : Option Lexeme} → Has ts o → Has (ts ++ us) o
has_front [] us h = elim h [ ]
has_front (t ∷ ts) us (has_this c d) = has_this c d
has_front (t ∷ ts) us (has_other h) = has_other (has_front ts us h)

has_back : (ts us : List Terminal) {o : Option Lexeme} → Has us o → Has (ts ++ us) o
has_back [] us h = h
has_back (t ∷ ts) us h = has_other (has_back ts us h)

guards_has : (us : List Terminal) (o : Option Lexeme) → one_of us o ≡ true → Has us o
guards_has [] o e = absurd (false≢true e)
guards_has (u ∷ []) o e = let k = accepted u o e in has_this k.0 k.1
guards_has (u ∷ w ∷ us) o e =
    elim (or_cases (accepts u o) (one_of (w ∷ us) o) e) [
      | inl k ↦ has_this (accepted u o k).0 (accepted u o k).1
      | inr k ↦ has_other (guards_has (w ∷ us) o k)
    ]

has_guards : (us : List Terminal) (o : Option Lexeme) → all_whole us ≡ true → Has us o → one_of us o ≡ true
has_guards [] o p h = elim h [ ]
has_guards (u ∷ []) o p (has_this c d) = accepts_kind u o (and_left _ _ p) c d
has_guards (u ∷ []) o p (has_other h) = elim h [ ]
has_guards (u ∷ w ∷ us) o p (has_this c d) = or_left _ _ (accepts_kind u o (and_left _ _ p) c d)
has_guards (u ∷ w ∷ us) o p (has_other h) = or_right (accepts u o) _ (has_guards (w ∷ us) o (and_right (is_whole u) _ p) h)

-- each alternative is right
among_fits : (r : Rule) {gs : List Guarded} {otherwise items : List Item} → Among gs otherwise items → guarded_fit r gs otherwise ≡ true
    → items_fit r items ≡ true
among_fits r (among_this {g = g}) e = and_left (items_fit r g.items) _ e
among_fits r (among_other {g = g} {gs = gs} {otherwise = o} a) e =
    among_fits r a (and_right (later_apart r g.guards gs o) _ (and_right (all_whole g.guards) _ (and_right (all_in (starts g.items (follows r)) g.guards) _ (and_right (items_fit r g.items) _ e))))
among_fits r among_else e = e

among_apart : (r : Rule) (guards : List Terminal) {gs : List Guarded} {otherwise items : List Item} → Among gs otherwise items
    → later_apart r guards gs otherwise ≡ true → none_in (starts items (follows r)) guards ≡ true
among_apart r guards (among_this {g = g}) e = and_left (none_in (starts g.items (follows r)) guards) _ e
among_apart r guards (among_other {g = g} a) e = among_apart r guards a (and_right (none_in (starts g.items (follows r)) guards) _ e)
among_apart r guards among_else e = e

-- the alternative that is spelled is the one that is taken
choice : (r : Rule) {gs : List Guarded} {otherwise items : List Item} {ts : List PlacedLexeme} {trees : Trees} {rest : List PlacedLexeme}
    → Among gs otherwise items → guarded_fit r gs otherwise ≡ true → Has (starts items (follows r)) (next ts)
    → ReadsAll [] items ts trees rest → ReadsChoice gs otherwise ts trees rest
choice r {ts = ts} (among_this {g = g}) e s h =
    let e1 = and_right (items_fit r g.items) _ e in
    reads_this (has_guards g.guards (next ts) (and_left (all_whole g.guards) _ (and_right (all_in (starts g.items (follows r)) g.guards) _ e1))
    (all_has _ g.guards (and_left (all_in (starts g.items (follows r)) g.guards) _ e1) s)) h
choice r {items = items} {ts = ts} (among_other {g = g} {gs = gs} {otherwise = o} a) e s h =
    let e3 = and_right (all_whole g.guards) _ (and_right (all_in (starts g.items (follows r)) g.guards) _ (and_right (items_fit r g.items) _ e)) in
    reads_other
    (is_false (one_of g.guards (next ts)) (λ is. none_has (starts items (follows r)) g.guards (among_apart r g.guards a (and_left (later_apart r g.guards gs o) _ e3)) s (guards_has g.guards (next ts) is)))
    (choice r a (and_right (later_apart r g.guards gs o) _ e3) s h)
choice r among_else e s h = reads_else h

has_cond : (b : Bool) (xs ys : List Terminal) {o : Option Lexeme} → Has xs o → Has (cond b (xs ++ ys) xs) o
has_cond true xs ys h = has_front xs ys h
has_cond false xs ys h = h

has_cond_back : (b : Bool) (xs ys : List Terminal) {o : Option Lexeme} → b ≡ true → Has ys o → Has (cond b (xs ++ ys) xs) o
has_cond_back true xs ys e h = has_back xs ys h
has_cond_back false xs ys e h = absurd (false≢true e)

spelled_kind : {t : Terminal} {ts : List PlacedLexeme} {tree : Tree} {rest : List PlacedLexeme} → Spells (token t) ts tree rest
    → (class_ahead (next ts) ≡ class_of t) × (code_ahead (next ts) ≡ code_of t)
spelled_kind (spells_token {t = t} {p = p} a) = accepted t (Some p.token) a

-- a token's kind, also that of a name that is bound
token_begins : (bound : List ℕ) (t : Terminal) (us : List Terminal) {ts : List PlacedLexeme} {tree : Tree} {rest : List PlacedLexeme}
    → Spells (known bound (token t)) ts tree rest → Has (t ∷ us) (next ts)
token_begins bound same us h = let k = spelled_kind h in has_this k.0 k.1
token_begins bound t us h = let k = spelled_kind h in has_this k.0 k.1

mutual
  rule_begins : {r : Rule} {ts : List PlacedLexeme} {tree : Tree} {rest : List PlacedLexeme} → Spells (rule r) ts tree rest
      → Has (firsts r) (next ts) ⊎ ((nullable r ≡ true) × (ts ≡ rest))
  rule_begins {r} (spells_rule {items = is} l among all) =
      let fit = and_right (follow_fits is (follows r)) _ (among_fits r among (rules_are_right r)) in
      elim (items_begin all) [
        | inl h ↦ inl (all_has (starts is []) (firsts r) (and_left _ _ fit) h)
        | inr k ↦ inr (or_second (may_be_nothing is) (nullable r) (and_right (all_in (starts is []) (firsts r)) _ fit) k.0, k.1)
      ]

  items_begin : {bound : List ℕ} {is : List Item} {ts : List PlacedLexeme} {trees : Trees} {rest : List PlacedLexeme}
      → SpellsAll bound is ts trees rest → Has (starts is []) (next ts) ⊎ ((may_be_nothing is ≡ true) × (ts ≡ rest))
  items_begin spells_none = inr (refl, refl)
  items_begin (spells_more {bound = b} {i = token t} h hs) = inl (token_begins b t [] h)
  items_begin (spells_more {i = rule r} {is = is} h hs) =
      elim (rule_begins h) [
        | inl k ↦ inl (has_cond (nullable r) (firsts r) (starts is []) k)
        | inr k ↦ elim (items_begin hs) [
          | inl m ↦ inl (has_cond_back (nullable r) (firsts r) (starts is []) k.0 (subst (λ (x : List PlacedLexeme). Has (starts is []) (next x)) (sym k.1) m))
          | inr m ↦ inr (rw (k.0, m.0) refl, k.1 ∙ m.1)
        ]
      ]

-- with what the items begin, where this stands after them
begins : {bound : List ℕ} {is : List Item} {ts : List PlacedLexeme} {trees : Trees} {rest : List PlacedLexeme} (behind : List Terminal)
    → SpellsAll bound is ts trees rest → Has behind (next rest) → Has (starts is behind) (next ts)
begins behind spells_none f = f
begins behind (spells_more {bound = b} {i = token t} h hs) f = token_begins b t [] h
begins behind (spells_more {i = rule r} {is = is} h hs) f =
    elim (rule_begins h) [
      | inl k ↦ has_cond (nullable r) (firsts r) (starts is behind) k
      | inr k ↦ has_cond_back (nullable r) (firsts r) (starts is behind) k.0
          (subst (λ (x : List PlacedLexeme). Has (starts is behind) (next x)) (sym k.1) (begins behind hs f))
    ]

-- what may stand after an item
abbrev pub MayFollow : Item → Option Lexeme → Type 0
MayFollow (token t) o = Unit {0}
MayFollow (rule r) o = Has (follows r) o

token_followed : (bound : List ℕ) (t : Terminal) (o : Option Lexeme) → MayFollow (known bound (token t)) o
token_followed bound same o = tt
token_followed bound t o = tt

mutual
  pub complete : {i : Item} {ts : List PlacedLexeme} {tree : Tree} {rest : List PlacedLexeme} → Spells i ts tree rest → MayFollow i (next rest)
      → Reads i ts tree rest
  complete (spells_token a) f = reads_token a
  complete (spells_rule {r = r} {items = is} l among all) f =
      let fit = among_fits r among (rules_are_right r) in
      reads_rule l (choice r among (rules_are_right r) (begins (follows r) all f) (all_complete (follows r) all (and_left (follow_fits is (follows r)) _ fit) f))

  all_complete : {bound : List ℕ} {is : List Item} {ts : List PlacedLexeme} {trees : Trees} {rest : List PlacedLexeme} (behind : List Terminal)
      → SpellsAll bound is ts trees rest → follow_fits is behind ≡ true → Has behind (next rest) → ReadsAll bound is ts trees rest
  all_complete behind spells_none e f = reads_none
  all_complete behind (spells_more {bound = b} {i = token t} {mid = mid} h hs) e f =
      reads_more (complete h (token_followed b t (next mid))) (all_complete behind hs e f)
  all_complete behind (spells_more {i = rule r} {is = is} h hs) e f =
      reads_more (complete h (all_has (starts is behind) (follows r) (and_left _ _ e) (begins behind hs f)))
      (all_complete behind hs (and_right (all_in (starts is behind) (follows r)) _ e) f)
