-- Reading by the table ends: the tokens are read or refused.
use Rattle.std.proofs.Common.{◌≡◌, ◌⊎◌, inl, inr, ℕ, zero, suc, ◌+◌, ◌*◌, ◌<◌, ◌≤◌, nat_lt, Bool, true, false, not, ◌&&◌, ◌||◌, List, [], ◌∷◌, Some, None, length, refl, sym, ◌∙◌, arith}
use Rattle.std.proofs.lemmas.Bool.{cases_Bool, false≢true}
use borrow.Author.Tests.{ltb-true}
use Rattle.tp_syntax.specs.Lexeme.{PlacedLexeme}
use Rattle.tp_syntax.specs.declared.stuck.Stuck.TheVariants.{At}
use Rattle.tp_syntax.specs.Item.{Terminal, this_name, same, finish, Item, token, rule, Guarded, accepts, one_of, next}
use Rattle.tp_syntax.specs.Rule.{Rule, a_module}
use Rattle.tp_syntax.specs.Grammar.{production}
use Rattle.tp_syntax.specs.Reading.{Tree, Trees, node, leaf, none, more, noted, bound_by, known, Reads, ReadsChoice, ReadsAll, reads_token, reads_rule, reads_this, reads_other, reads_else, reads_none, reads_more, Fails, FailsChoice, FailsAll, fails_token, fails_rule, fails_this, fails_other, fails_else, fails_here, fails_later}
use Rattle.tp_syntax.specs.Refusal.{IsText, IsRefusedAt, refused_within, refused_behind}
use Rattle.tp_syntax.proofs.FirstTokens.{nullable, rank, firsts}
use Rattle.tp_syntax.proofs.TokensTellAlternatives.{all_whole, all_in, starts, may_be_nothing, follow_fits, items_fit, later_apart, guarded_fit}
use Rattle.tp_syntax.proofs.FollowingTokens.{follows}
use Rattle.tp_syntax.proofs.ShallowTexts.{depth}
use Rattle.tp_syntax.proofs.TextsOfRules.{can_stand, are_below, all_stand, short_items, leads, all_lead}
use Rattle.tp_syntax.proofs.WrittenSetsAreRight.{rules_are_right, rules_are_shallow}
use Rattle.tp_syntax.proofs.UniqueTrees.{shorter, all_shorter}
use Rattle.tp_syntax.proofs.PassedTokensBeginTexts.{are_below_tail, items_stand}
use Rattle.tp_syntax.proofs.WholeTexts.{sound}
use Rattle.tp_syntax.proofs.FlagsOfTests.{and_left, and_right, or_second}

nothing_not : (a b : Bool) → (not a || b) ≡ true → b ≡ false → a ≡ false
nothing_not false b e f = refl
nothing_not true b e f = absurd (false≢true (sym f ∙ e))

and_false : (a b : Bool) → (a && b) ≡ false → a ≡ true → b ≡ false
and_false true b e t = e
and_false false b e t = absurd (false≢true t)

fits_here : (r : Rule) (g : Guarded) (gs : List Guarded) (otherwise : List Item) → guarded_fit r (g ∷ gs) otherwise ≡ true → items_fit r g.items ≡ true
fits_here r g gs o e = and_left (items_fit r g.items) _ e

fits_later : (r : Rule) (g : Guarded) (gs : List Guarded) (otherwise : List Item) → guarded_fit r (g ∷ gs) otherwise ≡ true → guarded_fit r gs otherwise ≡ true
fits_later r g gs o e =
    and_right (later_apart r g.guards gs o) _ (and_right (all_whole g.guards) _
    (and_right (all_in (starts g.items (follows r)) g.guards) _ (and_right (items_fit r g.items) _ e)))

something : (r : Rule) (is : List Item) → items_fit r is ≡ true → nullable r ≡ false → may_be_nothing is ≡ false
something r is e n =
    nothing_not (may_be_nothing is) (nullable r)
    (and_right (all_in (starts is []) (firsts r)) _ (and_right (follow_fits is (follows r)) _ e)) n

-- a rule that can't spell nothing passes a token
token_consumes : {t : Terminal} {ts : List PlacedLexeme} {tree : Tree} {rest : List PlacedLexeme} → Reads (token t) ts tree rest → length rest < length ts
token_consumes (reads_token a) = omega arith

item_consumes : (bound : List ℕ) (t : Terminal) {ts : List PlacedLexeme} {tree : Tree} {rest : List PlacedLexeme}
    → Reads (known bound (token t)) ts tree rest → length rest < length ts
item_consumes bound same h = token_consumes h
item_consumes bound t h = token_consumes h

mutual
  consumes : {r : Rule} {ts : List PlacedLexeme} {t : Tree} {rest : List PlacedLexeme} → Reads (rule r) ts t rest → nullable r ≡ false → length rest < length ts
  consumes (reads_rule {r = r} l c) n = choice_consumes r c (rules_are_right r) n

  choice_consumes : (r : Rule) {gs : List Guarded} {otherwise : List Item} {ts : List PlacedLexeme} {t : Trees} {rest : List PlacedLexeme}
      → ReadsChoice gs otherwise ts t rest → guarded_fit r gs otherwise ≡ true → nullable r ≡ false → length rest < length ts
  choice_consumes r (reads_this {g = g} {gs = gs} {otherwise = o} e h) fit n = all_consume h (something r g.items (fits_here r g gs o fit) n)
  choice_consumes r (reads_other {g = g} {gs = gs} {otherwise = o} e h) fit n = choice_consumes r h (fits_later r g gs o fit) n
  choice_consumes r (reads_else {otherwise = o} h) fit n = all_consume h (something r o fit n)

  all_consume : {bound : List ℕ} {is : List Item} {ts : List PlacedLexeme} {t : Trees} {rest : List PlacedLexeme}
      → ReadsAll bound is ts t rest → may_be_nothing is ≡ false → length rest < length ts
  all_consume reads_none e = absurd (false≢true (sym e))
  all_consume (reads_more {bound = b} {i = token t} h hs) e = let a = item_consumes b t h in let c = all_shorter hs in omega arith
  all_consume (reads_more {i = rule r} {is = is} h hs) e =
      elim (cases_Bool (nullable r)) [
        | inl y ↦ let a = shorter h in let c = all_consume hs (and_false (nullable r) (may_be_nothing is) e y) in omega arith
        | inr n ↦ let a = consumes h n in let c = all_shorter hs in omega arith
      ]

-- how reading ends
pub data Outcome (i : Item) (ts : List PlacedLexeme) : Type 0 where
  is_read : (t : Tree) (rest : List PlacedLexeme) → Reads i ts t rest → Outcome i ts
  is_stuck : (n : ℕ) → Fails i ts (At n) → Outcome i ts

pub data ChoiceOutcome (gs : List Guarded) (otherwise : List Item) (ts : List PlacedLexeme) : Type 0 where
  choice_read : (t : Trees) (rest : List PlacedLexeme) → ReadsChoice gs otherwise ts t rest → ChoiceOutcome gs otherwise ts
  choice_stuck : (n : ℕ) → FailsChoice gs otherwise ts (At n) → ChoiceOutcome gs otherwise ts

pub data AllOutcome (bound : List ℕ) (is : List Item) (ts : List PlacedLexeme) : Type 0 where
  all_read : (t : Trees) (rest : List PlacedLexeme) → ReadsAll bound is ts t rest → AllOutcome bound is ts
  all_stuck : (n : ℕ) → FailsAll bound is ts (At n) → AllOutcome bound is ts

refused_end : (t : Terminal) → can_stand t ≡ true → accepts t None ≡ false
refused_end finish e = absurd (false≢true e)
refused_end t e = refl

token_ends : (t : Terminal) (ts : List PlacedLexeme) → accepts t None ≡ false → Outcome (token t) ts
token_ends t [] e = is_stuck 0 (fails_token e refl)
token_ends t (p ∷ ps) e =
    elim (cases_Bool (accepts t (Some p.token))) [
      | inl y ↦ is_read (leaf p.token) ps (reads_token y)
      | inr n ↦ is_stuck (length (p ∷ ps)) (fails_token n refl)
    ]

item_ends : (bound : List ℕ) (t : Terminal) (ts : List PlacedLexeme) → can_stand t ≡ true → Outcome (known bound (token t)) ts
item_ends bound same ts e = token_ends (this_name bound) ts refl
item_ends bound t ts e = token_ends t ts (refused_end t e)

-- some tokens were passed, or the rules with which the items may begin are of a lower rank
abbrev MayBegin : ℕ → List Item → List PlacedLexeme → List PlacedLexeme → Type 0
MayBegin m is us ts = (length us < length ts) ⊎ ((length us ≤ length ts) × (leads m is ≡ true))

further : (m : ℕ) (q : Rule) (is : List Item) (us ts : List PlacedLexeme) {t : Tree} {rest : List PlacedLexeme} → MayBegin m (rule q ∷ is) us ts
    → Reads (rule q) us t rest → MayBegin m is rest ts
further m q is us ts (inl l) h = let a = shorter h in inl (omega arith)
further m q is us ts (inr l) h =
    elim (cases_Bool (nullable q)) [
      | inl y ↦ let a = shorter h in let b = l.0 in
          inr (omega arith, or_second (nullable q) (leads m is) (and_right (nat_lt (rank q) m) _ l.1) y)
      | inr n ↦ let a = consumes h n in let b = l.0 in inl (omega arith)
    ]

is_low : (q : Rule) → rank q < 20
is_low q =
    ltb-true _ _ (and_left (nat_lt (rank q) 20) _ (and_right (all_stand (production q).guarded (production q).otherwise) _
    (and_right (are_below (depth q) (short_items q)) _ (rules_are_shallow q))))

leads_on : (q : Rule) → all_lead (rank q) (production q).guarded (production q).otherwise ≡ true
leads_on q =
    and_right (nat_lt (rank q) 20) _ (and_right (all_stand (production q).guarded (production q).otherwise) _
    (and_right (are_below (depth q) (short_items q)) _ (rules_are_shallow q)))

below : (m : ℕ) (q : Rule) (is : List Item) (us ts : List PlacedLexeme) → MayBegin m (rule q ∷ is) us ts → 20 * length us + rank q < 20 * length ts + m
below m q is us ts (inl l) = let a = is_low q in omega arith
below m q is us ts (inr l) = let a = l.0 in let b = ltb-true (rank q) m (and_left (nat_lt (rank q) m) _ l.1) in omega arith

module _ (m : ℕ) (ts : List PlacedLexeme) (rules : (q : Rule) (us : List PlacedLexeme) → 20 * length us + rank q < 20 * length ts + m → Outcome (rule q) us) where
  passed : (bound : List ℕ) (t : Terminal) (is : List Item) (us : List PlacedLexeme) {tree : Tree} {rest : List PlacedLexeme} → MayBegin m (token t ∷ is) us ts
      → Reads (known bound (token t)) us tree rest → MayBegin m is rest ts
  passed bound t is us (inl l) h = let a = item_consumes bound t h in inl (omega arith)
  passed bound t is us (inr l) h = let a = item_consumes bound t h in let c = l.0 in inl (omega arith)

  all_behind : (bound : List ℕ) (i : Item) (is : List Item) (us : List PlacedLexeme) → Outcome (known bound i) us
      → ((t : Tree) (rest : List PlacedLexeme) → Reads (known bound i) us t rest → AllOutcome (bound_by bound i t) is rest) → AllOutcome bound (i ∷ is) us
  all_behind bound i is us (is_stuck n f) b = all_stuck n (fails_here f)
  all_behind bound i is us (is_read t rest h) b =
      elim (b t rest h) [
        | all_read trees after hs ↦ all_read (more t trees) after (reads_more h hs)
        | all_stuck n f ↦ all_stuck n (fails_later h f)
      ]

  all_end : (bound : List ℕ) (is : List Item) (us : List PlacedLexeme) → are_below 10 is ≡ true → MayBegin m is us ts → AllOutcome bound is us
  all_end bound [] us s b = all_read none us reads_none
  all_end bound (token t ∷ is) us s b =
      all_behind bound (token t) is us (item_ends bound t us (and_left (can_stand t) _ s))
      (λ tree rest h. all_end (bound_by bound (token t) tree) is rest (are_below_tail (token t) is s) (passed bound t is us b h))
  all_end bound (rule q ∷ is) us s b =
      all_behind bound (rule q) is us (rules q us (below m q is us ts b))
      (λ tree rest h. all_end (bound_by bound (rule q) tree) is rest (are_below_tail (rule q) is s) (further m q is us ts b h))

  choice_ends : (gs : List Guarded) (otherwise : List Item) → all_stand gs otherwise ≡ true → all_lead m gs otherwise ≡ true → ChoiceOutcome gs otherwise ts
  choice_ends [] o s l =
      elim (all_end [] o ts s (inr (omega arith, l))) [
        | all_read t rest h ↦ choice_read t rest (reads_else h)
        | all_stuck n f ↦ choice_stuck n (fails_else f)
      ]
  choice_ends (g ∷ gs) o s l =
      elim (cases_Bool (one_of g.guards (next ts))) [
        | inl y ↦ elim (all_end [] g.items ts (and_left (are_below 10 g.items) _ s) (inr (omega arith, and_left (leads m g.items) _ l))) [
          | all_read t rest h ↦ choice_read t rest (reads_this y h)
          | all_stuck n f ↦ choice_stuck n (fails_this y f)
        ]
        | inr n ↦ elim (choice_ends gs o (and_right (are_below 10 g.items) _ s) (and_right (leads m g.items) _ l)) [
          | choice_read t rest h ↦ choice_read t rest (reads_other n h)
          | choice_stuck k f ↦ choice_stuck k (fails_other n f)
        ]
      ]

rule_ends : (k : ℕ) (r : Rule) (ts : List PlacedLexeme) → 20 * length ts + rank r < k → Outcome (rule r) ts
rule_ends zero r ts lt = absurd (omega arith)
rule_ends (suc k) r ts lt =
    elim (choice_ends (rank r) ts (λ (q : Rule) (us : List PlacedLexeme) (l : 20 * length us + rank q < 20 * length ts + rank r). rule_ends k q us (omega arith))
    (production r).guarded (production r).otherwise (items_stand r) (leads_on r)) [
      | choice_read t rest h ↦ is_read (node r (noted r ts) t) rest (reads_rule refl h)
      | choice_stuck n f ↦ is_stuck n (fails_rule f)
    ]

read_to_end : (ts rest : List PlacedLexeme) (t : Tree) → Reads (rule a_module) ts t rest → ((t : Tree) × IsText ts t) ⊎ ((n : ℕ) × IsRefusedAt ts (At n))
read_to_end ts [] t h = inl (t, sound h)
read_to_end ts (p ∷ ps) t h = inr (length (p ∷ ps), refused_behind h refl (λ e. cc))

pub each_ends : (ts : List PlacedLexeme) → ((t : Tree) × IsText ts t) ⊎ ((n : ℕ) × IsRefusedAt ts (At n))
each_ends ts =
    elim (rule_ends (suc (20 * length ts + rank a_module)) a_module ts (omega arith)) [
      | is_read t rest h ↦ read_to_end ts rest t h
      | is_stuck n f ↦ inr (n, refused_within f)
    ]
