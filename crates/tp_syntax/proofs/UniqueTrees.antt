-- One tree for the tokens, and none for those up to the one at which reading fails.
use Rattle.std.proofs.Common.{◌≡◌, ℕ, ◌≤◌, Bool, true, false, List, ◌∷◌, Option, Some, length, refl, ap, sym, subst, ◌∙◌, arith}
use Rattle.std.proofs.lemmas.Bool.{false≢true}
use Rattle.tp_syntax.specs.Lexeme.{Lexeme, PlacedLexeme}
use Rattle.tp_syntax.specs.declared.stuck.Stuck.TheVariants.{At}
use Rattle.tp_syntax.specs.Refusal.{Agree, agree_last, agree_more}
use Rattle.tp_syntax.specs.Item.{Terminal, binds, Item, token, Guarded, accepts, one_of, next}
use Rattle.tp_syntax.specs.Rule.{Rule}
use Rattle.tp_syntax.specs.Reading.{Tree, leaf, node, Trees, none, more, noted, bound_by, Reads, ReadsChoice, ReadsAll, reads_token, reads_rule, reads_this, reads_other, reads_else, reads_none, reads_more, Fails, FailsChoice, FailsAll, fails_token, fails_rule, fails_this, fails_other, fails_else, fails_here, fails_later}

differ : {b : Bool} → b ≡ true → b ≡ false → ⊥
differ t f = false≢true (sym f ∙ t)

both : {t u : Tree} {ts us : Trees} → t ≡ u → ts ≡ us → more t ts ≡ more u us
both e f = cc

mutual
  pub one_tree : {i : Item} {ts : List PlacedLexeme} {t u : Tree} {rest after : List PlacedLexeme} → Reads i ts t rest → Reads i ts u after
      → (t ≡ u) × (rest ≡ after)
  one_tree (reads_token a) (reads_token b) = (refl, refl)
  one_tree (reads_rule l c) (reads_rule m d) = let k = one_choice c d in (cc (l, m, k.0), k.1)

  one_choice : {gs : List Guarded} {otherwise : List Item} {ts : List PlacedLexeme} {t u : Trees} {rest after : List PlacedLexeme}
      → ReadsChoice gs otherwise ts t rest → ReadsChoice gs otherwise ts u after → (t ≡ u) × (rest ≡ after)
  one_choice (reads_this e h) (reads_this f k) = one_all h k
  one_choice (reads_this e h) (reads_other f k) = absurd (differ e f)
  one_choice (reads_other e h) (reads_this f k) = absurd (differ f e)
  one_choice (reads_other e h) (reads_other f k) = one_choice h k
  one_choice (reads_else h) (reads_else k) = one_all h k

  one_all : {bound : List ℕ} {is : List Item} {ts : List PlacedLexeme} {t u : Trees} {rest after : List PlacedLexeme}
      → ReadsAll bound is ts t rest → ReadsAll bound is ts u after → (t ≡ u) × (rest ≡ after)
  one_all reads_none reads_none = (refl, refl)
  one_all (reads_more {bound = b} {i = i} {is = is} {mid = mid} h hs) (reads_more {rest = rest} {t = u} {trees = us} k ks) =
      let e = one_tree h k in
      let ls = subst (λ (x : Tree). ReadsAll (bound_by b i x) is mid us rest) (sym e.0) (subst (λ (x : List PlacedLexeme). ReadsAll (bound_by b i u) is x us rest) (sym e.1) ks) in
      let f = one_all hs ls in
      (both e.0 f.0, f.1)

-- the next token is the same
pub agree_next : {n : ℕ} {ts us : List PlacedLexeme} → Agree n ts us → next ts ≡ next us
agree_next (agree_last l e) = e
agree_next (agree_more e h) = ap (λ (x : Lexeme). Some x) e

-- what is left is no longer
mutual
  pub shorter : {i : Item} {ts : List PlacedLexeme} {t : Tree} {rest : List PlacedLexeme} → Reads i ts t rest → length rest ≤ length ts
  shorter (reads_token a) = omega arith
  shorter (reads_rule l c) = choice_shorter c

  choice_shorter : {gs : List Guarded} {otherwise : List Item} {ts : List PlacedLexeme} {t : Trees} {rest : List PlacedLexeme}
      → ReadsChoice gs otherwise ts t rest → length rest ≤ length ts
  choice_shorter (reads_this e h) = all_shorter h
  choice_shorter (reads_other e h) = choice_shorter h
  choice_shorter (reads_else h) = all_shorter h

  pub all_shorter : {bound : List ℕ} {is : List Item} {ts : List PlacedLexeme} {t : Trees} {rest : List PlacedLexeme}
      → ReadsAll bound is ts t rest → length rest ≤ length ts
  all_shorter reads_none = omega arith
  all_shorter (reads_more h hs) = let a = shorter h in let b = all_shorter hs in omega arith

-- where reading fails is no earlier
mutual
  fails_within : {i : Item} {ts : List PlacedLexeme} {n : ℕ} → Fails i ts (At n) → n ≤ length ts
  fails_within (fails_token a l) = omega arith
  fails_within (fails_rule c) = choice_fails_within c

  choice_fails_within : {gs : List Guarded} {otherwise : List Item} {ts : List PlacedLexeme} {n : ℕ} → FailsChoice gs otherwise ts (At n) → n ≤ length ts
  choice_fails_within (fails_this e h) = all_fail_within h
  choice_fails_within (fails_other e h) = choice_fails_within h
  choice_fails_within (fails_else h) = all_fail_within h

  all_fail_within : {bound : List ℕ} {is : List Item} {ts : List PlacedLexeme} {n : ℕ} → FailsAll bound is ts (At n) → n ≤ length ts
  all_fail_within (fails_here h) = fails_within h
  all_fail_within (fails_later h hs) = let a = shorter h in let b = all_fail_within hs in omega arith

pub bound_node : (bound : List ℕ) (i : Item) (r : Rule) (line : Option ℕ) (trees : Trees) → bound_by bound i (node r line trees) ≡ bound
bound_node b (token binds) r line trees = refl
bound_node b _ r line trees = refl

-- what is read from other tokens that agree as far
pub record Elsewhere (i : Item) (n : ℕ) (us : List PlacedLexeme) (t : Tree) (rest : List PlacedLexeme) : Type 0 where
  pub tree : Tree
  pub after : List PlacedLexeme
  pub reads : Reads i us tree after
  pub agree : Agree n rest after
  pub bound : (b : List ℕ) (j : Item) → bound_by b j t ≡ bound_by b j tree

pub record ChoiceElsewhere (gs : List Guarded) (otherwise : List Item) (n : ℕ) (us : List PlacedLexeme) (rest : List PlacedLexeme) : Type 0 where
  pub trees : Trees
  pub after : List PlacedLexeme
  pub reads : ReadsChoice gs otherwise us trees after
  pub agree : Agree n rest after

pub record AllElsewhere (bound : List ℕ) (is : List Item) (n : ℕ) (us : List PlacedLexeme) (rest : List PlacedLexeme) : Type 0 where
  pub trees : Trees
  pub after : List PlacedLexeme
  pub reads : ReadsAll bound is us trees after
  pub agree : Agree n rest after

token_elsewhere : {n : ℕ} {t : Terminal} {p : PlacedLexeme} {ps us : List PlacedLexeme} → accepts t (Some p.token) ≡ true → n ≤ length ps
    → Agree n (p ∷ ps) us → Elsewhere (token t) n us (leaf p.token) ps
token_elsewhere a n (agree_last l e) = absurd (omega arith)
token_elsewhere {t = t} a n (agree_more {q = q} {us = us} e h) = record {
  tree = leaf q.token;
  after = us;
  reads = reads_token (subst (λ (x : Lexeme). accepts t (Some x) ≡ true) e a);
  agree = h;
  bound = λ b j. ap (λ (x : Lexeme). bound_by b j (leaf x)) e;
}

mutual
  pub elsewhere : {i : Item} {n : ℕ} {ts us : List PlacedLexeme} {t : Tree} {rest : List PlacedLexeme} → Reads i ts t rest → n ≤ length rest
      → Agree n ts us → Elsewhere i n us t rest
  elsewhere (reads_token a) l g = token_elsewhere a l g
  elsewhere {us = us} (reads_rule {r = r} {trees = trees} {line = line} e c) l g =
      let k = choice_elsewhere c l g in
      record {
        tree = node r (noted r us) k.trees;
        after = k.after;
        reads = reads_rule refl k.reads;
        agree = k.agree;
        bound = λ b j. bound_node b j r line trees ∙ sym (bound_node b j r (noted r us) k.trees);
      }

  choice_elsewhere : {gs : List Guarded} {otherwise : List Item} {n : ℕ} {ts us : List PlacedLexeme} {t : Trees} {rest : List PlacedLexeme}
      → ReadsChoice gs otherwise ts t rest → n ≤ length rest → Agree n ts us → ChoiceElsewhere gs otherwise n us rest
  choice_elsewhere (reads_this {g = c} e h) l g =
      let k = all_elsewhere h l g in
      record {
        trees = k.trees;
        after = k.after;
        reads = reads_this (subst (λ (o : Option Lexeme). one_of c.guards o ≡ true) (agree_next g) e) k.reads;
        agree = k.agree;
      }
  choice_elsewhere (reads_other {g = c} e h) l g =
      let k = choice_elsewhere h l g in
      record {
        trees = k.trees;
        after = k.after;
        reads = reads_other (subst (λ (o : Option Lexeme). one_of c.guards o ≡ false) (agree_next g) e) k.reads;
        agree = k.agree;
      }
  choice_elsewhere (reads_else h) l g =
      let k = all_elsewhere h l g in
      record { trees = k.trees; after = k.after; reads = reads_else k.reads; agree = k.agree }

  all_elsewhere : {bound : List ℕ} {is : List Item} {n : ℕ} {ts us : List PlacedLexeme} {t : Trees} {rest : List PlacedLexeme}
      → ReadsAll bound is ts t rest → n ≤ length rest → Agree n ts us → AllElsewhere bound is n us rest
  all_elsewhere {us = us} reads_none l g = record { trees = none; after = us; reads = reads_none; agree = g }
  all_elsewhere {n = n} (reads_more {bound = b} {i = i} {is = is} {mid = mid} {rest = rest} {t = t} h hs) l g =
      let s = all_shorter hs in
      let within : n ≤ length mid = omega arith in
      let k = elsewhere h within g in
      let m = all_elsewhere hs l k.agree in
      record {
        trees = more k.tree m.trees;
        after = m.after;
        reads = reads_more k.reads (subst (λ (x : List ℕ). ReadsAll x is k.after m.trees m.after) (k.bound b i) m.reads);
        agree = m.agree;
      }

-- nothing is read from tokens that agree up to the one at which reading fails
mutual
  pub apart : {i : Item} {n : ℕ} {ts us : List PlacedLexeme} {t : Tree} {rest : List PlacedLexeme} → Fails i ts (At n) → Agree n ts us
      → Reads i us t rest → ⊥
  apart (fails_token {t = t} a l) g (reads_token b) = differ b (subst (λ (o : Option Lexeme). accepts t o ≡ false) (agree_next g) a)
  apart (fails_rule c) g (reads_rule l d) = choice_apart c g d

  choice_apart : {gs : List Guarded} {otherwise : List Item} {n : ℕ} {ts us : List PlacedLexeme} {t : Trees} {rest : List PlacedLexeme}
      → FailsChoice gs otherwise ts (At n) → Agree n ts us → ReadsChoice gs otherwise us t rest → ⊥
  choice_apart (fails_this e f) g (reads_this d h) = all_apart f g h
  choice_apart (fails_this {g = c} e f) g (reads_other d h) = differ (subst (λ (o : Option Lexeme). one_of c.guards o ≡ true) (agree_next g) e) d
  choice_apart (fails_other {g = c} e f) g (reads_this d h) = differ d (subst (λ (o : Option Lexeme). one_of c.guards o ≡ false) (agree_next g) e)
  choice_apart (fails_other e f) g (reads_other d h) = choice_apart f g h
  choice_apart (fails_else f) g (reads_else h) = all_apart f g h

  all_apart : {bound : List ℕ} {is : List Item} {n : ℕ} {ts us : List PlacedLexeme} {t : Trees} {rest : List PlacedLexeme}
      → FailsAll bound is ts (At n) → Agree n ts us → ReadsAll bound is us t rest → ⊥
  all_apart (fails_here f) g (reads_more h hs) = apart f g h
  all_apart {n = n} (fails_later {bound = b} {i = i} {is = is} {t = t} h0 fs) g (reads_more {rest = rest} {t = u} {trees = us} h hs) =
      let k = elsewhere h0 (all_fail_within fs) g in
      let e = one_tree k.reads h in
      let same = k.bound b i ∙ ap (λ (x : Tree). bound_by b i x) e.0 in
      all_apart fs k.agree
      (subst (λ (x : List ℕ). ReadsAll x is k.after us rest) (sym same)
      (subst (λ (x : List PlacedLexeme). ReadsAll (bound_by b i u) is x us rest) (sym e.1) hs))
