-- What was passed before reading fails begins a text: so no refusal comes too late.
use Rattle.std.proofs.Common.{◌≡◌, ℕ, zero, suc, ◌<◌, nat_lt, true, List, [], ◌∷◌, length, refl, sym, subst, ◌∙◌, arith}
use borrow.Author.Tests.{ltb-true}
use Rattle.std.proofs.lemmas.Slice.Eq.{bytes_eq-Decides}
use Rattle.std.specs.Str.{bytes_eq}
use Rattle.tp_syntax.specs.Lexeme.{Lexeme, name, PlacedLexeme}
use Rattle.tp_syntax.specs.declared.stuck.Stuck.TheVariants.{At}
use Rattle.tp_syntax.specs.Item.{Terminal, binds, same, Item, token, rule, Guarded}
use Rattle.tp_syntax.specs.Rule.{Rule}
use Rattle.tp_syntax.specs.Grammar.{production}
use Rattle.tp_syntax.specs.Reading.{Tree, leaf, node, Trees, none, more, noted, bound_by, known, Reads, ReadsChoice, ReadsAll, reads_token, reads_rule, reads_this, reads_other, reads_else, reads_none, reads_more, Fails, FailsChoice, FailsAll, fails_token, fails_rule, fails_this, fails_other, fails_else, fails_here, fails_later, Among, among_this, among_other, among_else, Spells, SpellsAll, spells_token, spells_rule, spells_none, spells_more}
use Rattle.tp_syntax.specs.Refusal.{Begins, begins_end, begins_more}
use Rattle.tp_syntax.proofs.UniqueTrees.{bound_node}
use Rattle.tp_syntax.proofs.ShallowTexts.{shortest, depth}
use Rattle.tp_syntax.proofs.TextsOfRules.{sample_of, at_place, short_items, can_stand, are_below, all_stand}
use Rattle.tp_syntax.proofs.WrittenSetsAreRight.{rules_are_shallow}
use Rattle.tp_syntax.proofs.FlagsOfTests.{and_left, and_right}

among_place : (n : ℕ) (gs : List Guarded) (otherwise : List Item) → Among gs otherwise (at_place n gs otherwise)
among_place n [] o = among_else
among_place zero (g ∷ gs) o = among_this
among_place (suc n) (g ∷ gs) o = among_other (among_place n gs o)

depths_fall : (r : Rule) → are_below (depth r) (short_items r) ≡ true
depths_fall r = and_left (are_below (depth r) (short_items r)) _ (rules_are_shallow r)

pub items_stand : (r : Rule) → all_stand (production r).guarded (production r).otherwise ≡ true
items_stand r = and_left (all_stand (production r).guarded (production r).otherwise) _ (and_right (are_below (depth r) (short_items r)) _ (rules_are_shallow r))

bytes_same : (bs : List ℕ) → bytes_eq bs bs ≡ true
bytes_same bs = (bytes_eq-Decides bs bs).1 refl

pub are_below_tail : (i : Item) (is : List Item) → are_below 10 (i ∷ is) ≡ true → are_below 10 is ≡ true
are_below_tail (token t) is e = and_right (can_stand t) _ e
are_below_tail (rule r) is e = and_right (nat_lt (depth r) 10) _ e

-- tokens of an item, before these
pub record Sampled (i : Item) (rest : List PlacedLexeme) : Type 0 where
  pub all : List PlacedLexeme
  pub tree : Tree
  pub spells : Spells i all tree rest

pub record AllSampled (bound : List ℕ) (is : List Item) (rest : List PlacedLexeme) : Type 0 where
  pub all : List PlacedLexeme
  pub trees : Trees
  pub spells : SpellsAll bound is all trees rest

abbrev placed : Lexeme → PlacedLexeme
placed l = record { token = l; line = 0 }

items_sampled : (m : ℕ) (rules : (q : Rule) (rest : List PlacedLexeme) → depth q < m → Sampled (rule q) rest) (bound : List ℕ) (is : List Item) (rest : List PlacedLexeme)
    → are_below m is ≡ true → AllSampled bound is rest
items_sampled m rules bound [] rest e = record { all = rest; trees = none; spells = spells_none }
items_sampled m rules bound (rule q ∷ is) rest e =
    let v = items_sampled m rules bound is rest (and_right (nat_lt (depth q) m) _ e) in
    let w = rules q v.all (ltb-true _ _ (and_left (nat_lt (depth q) m) _ e)) in
    record { all = w.all; trees = more w.tree v.trees; spells = spells_more w.spells v.spells }
items_sampled m rules bound (token same ∷ is) rest e =
    let v = items_sampled m rules bound is rest (and_right (can_stand same) _ e) in
    record { all = placed (name bound) ∷ v.all; trees = more (leaf (name bound)) v.trees; spells = spells_more (spells_token (bytes_same bound)) v.spells }
items_sampled m rules bound (token binds ∷ is) rest e =
    let v = items_sampled m rules [] is rest (and_right (can_stand binds) _ e) in
    record { all = placed (name []) ∷ v.all; trees = more (leaf (name [])) v.trees; spells = spells_more (spells_token refl) v.spells }
items_sampled m rules bound (token t ∷ is) rest e =
    let v = items_sampled m rules bound is rest (and_right (can_stand t) _ e) in
    record { all = placed (sample_of t) ∷ v.all; trees = more (leaf (sample_of t)) v.trees; spells = spells_more (spells_token (and_left (can_stand t) (are_below m is) e)) v.spells }

rule_sampled : (k : ℕ) (r : Rule) (rest : List PlacedLexeme) → depth r < k → Sampled (rule r) rest
rule_sampled zero r rest lt = absurd (omega arith)
rule_sampled (suc k) r rest lt =
    let v = items_sampled (depth r) (λ (q : Rule) (more_rest : List PlacedLexeme) (below : depth q < depth r). rule_sampled k q more_rest (omega arith)) [] (short_items r) rest (depths_fall r) in
    record { all = v.all; tree = node r (noted r v.all) v.trees; spells = spells_rule refl (among_place (shortest r) _ _) v.spells }

sampled : (bound : List ℕ) (is : List Item) (rest : List PlacedLexeme) → are_below 10 is ≡ true → AllSampled bound is rest
sampled = items_sampled 10 (rule_sampled 10)

-- what was read, with other tokens after it
pub record Moved (i : Item) (n : ℕ) (ts : List PlacedLexeme) (t : Tree) (us : List PlacedLexeme) : Type 0 where
  pub all : List PlacedLexeme
  pub tree : Tree
  pub spells : Spells i all tree us
  pub begins : Begins n ts all
  pub bound : (b : List ℕ) (j : Item) → bound_by b j t ≡ bound_by b j tree

pub record ChoiceMoved (gs : List Guarded) (otherwise : List Item) (n : ℕ) (ts us : List PlacedLexeme) : Type 0 where
  pub items : List Item
  pub among : Among gs otherwise items
  pub all : List PlacedLexeme
  pub trees : Trees
  pub spells : SpellsAll [] items all trees us
  pub begins : Begins n ts all

pub record AllMoved (bound : List ℕ) (is : List Item) (n : ℕ) (ts us : List PlacedLexeme) : Type 0 where
  pub all : List PlacedLexeme
  pub trees : Trees
  pub spells : SpellsAll bound is all trees us
  pub begins : Begins n ts all

mutual
  pub moved : {i : Item} {n : ℕ} {ts us : List PlacedLexeme} {t : Tree} {rest : List PlacedLexeme} → Reads i ts t rest → Begins n rest us → Moved i n ts t us
  moved {us = us} (reads_token {p = p} a) g =
      record { all = p ∷ us; tree = leaf p.token; spells = spells_token a; begins = begins_more refl g; bound = λ b j. refl }
  moved (reads_rule {r = r} {trees = trees} {line = line} e c) g =
      let k = choice_moved c g in
      record {
        all = k.all;
        tree = node r (noted r k.all) k.trees;
        spells = spells_rule refl k.among k.spells;
        begins = k.begins;
        bound = λ b j. bound_node b j r line trees ∙ sym (bound_node b j r (noted r k.all) k.trees);
      }

  choice_moved : {gs : List Guarded} {otherwise : List Item} {n : ℕ} {ts us : List PlacedLexeme} {t : Trees} {rest : List PlacedLexeme}
      → ReadsChoice gs otherwise ts t rest → Begins n rest us → ChoiceMoved gs otherwise n ts us
  choice_moved (reads_this {g = c} e h) g =
      let k = all_moved h g in
      record { items = c.items; among = among_this; all = k.all; trees = k.trees; spells = k.spells; begins = k.begins }
  choice_moved (reads_other e h) g =
      let k = choice_moved h g in
      record { items = k.items; among = among_other k.among; all = k.all; trees = k.trees; spells = k.spells; begins = k.begins }
  choice_moved (reads_else {otherwise = o} h) g =
      let k = all_moved h g in
      record { items = o; among = among_else; all = k.all; trees = k.trees; spells = k.spells; begins = k.begins }

  all_moved : {bound : List ℕ} {is : List Item} {n : ℕ} {ts us : List PlacedLexeme} {t : Trees} {rest : List PlacedLexeme}
      → ReadsAll bound is ts t rest → Begins n rest us → AllMoved bound is n ts us
  all_moved {us = us} reads_none g = record { all = us; trees = none; spells = spells_none; begins = g }
  all_moved {us = us} (reads_more {bound = b} {i = i} {is = is} h hs) g =
      let m = all_moved hs g in
      let k = moved h m.begins in
      record {
        all = k.all;
        trees = more k.tree m.trees;
        spells = spells_more k.spells (subst (λ (x : List ℕ). SpellsAll x is m.all m.trees us) (k.bound b i) m.spells);
        begins = k.begins;
      }

token_fails : {t : Terminal} {ts : List PlacedLexeme} {n : ℕ} → Fails (token t) ts (At n) → n ≡ length ts
token_fails (fails_token a l) = l

item_fails : (bound : List ℕ) (t : Terminal) {ts : List PlacedLexeme} {n : ℕ} → Fails (known bound (token t)) ts (At n) → n ≡ length ts
item_fails bound same f = token_fails f
item_fails bound t f = token_fails f

-- what was passed goes on
pub record Goes (i : Item) (n : ℕ) (ts us : List PlacedLexeme) : Type 0 where
  pub all : List PlacedLexeme
  pub tree : Tree
  pub spells : Spells i all tree us
  pub begins : Begins n ts all

mutual
  pub viable : {r : Rule} {n : ℕ} {ts : List PlacedLexeme} (us : List PlacedLexeme) → Fails (rule r) ts (At n) → Goes (rule r) n ts us
  viable us (fails_rule {r = r} c) =
      let k = choice_viable us c (items_stand r) in
      record { all = k.all; tree = node r (noted r k.all) k.trees; spells = spells_rule refl k.among k.spells; begins = k.begins }

  choice_viable : {gs : List Guarded} {otherwise : List Item} {n : ℕ} {ts : List PlacedLexeme} (us : List PlacedLexeme)
      → FailsChoice gs otherwise ts (At n) → all_stand gs otherwise ≡ true → ChoiceMoved gs otherwise n ts us
  choice_viable us (fails_this {g = c} e f) s =
      let k = all_viable us f (and_left (are_below 10 c.items) _ s) in
      record { items = c.items; among = among_this; all = k.all; trees = k.trees; spells = k.spells; begins = k.begins }
  choice_viable us (fails_other {g = c} e f) s =
      let k = choice_viable us f (and_right (are_below 10 c.items) _ s) in
      record { items = k.items; among = among_other k.among; all = k.all; trees = k.trees; spells = k.spells; begins = k.begins }
  choice_viable us (fails_else {otherwise = o} f) s =
      let k = all_viable us f s in
      record { items = o; among = among_else; all = k.all; trees = k.trees; spells = k.spells; begins = k.begins }

  all_viable : {bound : List ℕ} {is : List Item} {n : ℕ} {ts : List PlacedLexeme} (us : List PlacedLexeme)
      → FailsAll bound is ts (At n) → are_below 10 is ≡ true → AllMoved bound is n ts us
  all_viable us (fails_here {bound = b} {i = token t} {is = is} f) s =
      let v = sampled b (token t ∷ is) us s in
      record { all = v.all; trees = v.trees; spells = v.spells; begins = begins_end (item_fails b t f) }
  all_viable us (fails_here {bound = b} {i = rule r} {is = is} f) s =
      let v = sampled b is us (and_right (nat_lt (depth r) 10) _ s) in
      let k = viable v.all f in
      record { all = k.all; trees = more k.tree v.trees; spells = spells_more k.spells v.spells; begins = k.begins }
  all_viable us (fails_later {bound = b} {i = i} {is = is} h fs) s =
      let m = all_viable us fs (are_below_tail i is s) in
      let k = moved h m.begins in
      record {
        all = k.all;
        trees = more k.tree m.trees;
        spells = spells_more k.spells (subst (λ (x : List ℕ). SpellsAll x is m.all m.trees us) (k.bound b i) m.spells);
        begins = k.begins;
      }
