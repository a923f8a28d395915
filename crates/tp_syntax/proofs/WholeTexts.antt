-- What is read is spelled; whole texts, and what begins none.
use Rattle.std.proofs.Common.{◌≡◌, ◌↔◌, ℕ, List, [], None, length, refl, ap, subst, ◌∙◌, arith}
use Rattle.tp_syntax.specs.Lexeme.{PlacedLexeme}
use Rattle.tp_syntax.specs.declared.stuck.Stuck.{Stuck}
use Rattle.tp_syntax.specs.declared.stuck.Stuck.TheVariants.{At, Memory}
use Rattle.tp_syntax.specs.Item.{Item, rule, Guarded, next}
use Rattle.tp_syntax.specs.Rule.{a_module}
use Rattle.tp_syntax.specs.Reading.{Tree, Trees, Reads, ReadsChoice, ReadsAll, reads_token, reads_rule, reads_this, reads_other, reads_else, reads_none, reads_more, Fails, Among, among_this, among_other, among_else, Spells, SpellsAll, spells_token, spells_rule, spells_none, spells_more}
use Rattle.tp_syntax.specs.Refusal.{Begins, begins_end, BeginsText, IsRefusedAt, refused_within, refused_behind, IsText, NoneGoesOn}
use Rattle.tp_syntax.proofs.FollowingTokens.{follows}
use Rattle.tp_syntax.proofs.SpelledTokensAreRead.{has_this, complete}
use Rattle.tp_syntax.proofs.PassedTokensBeginTexts.{viable, Moved, moved}
use Rattle.tp_syntax.proofs.UniqueTrees.{one_tree, elsewhere, agree_next, apart}

mutual
  pub sound : {i : Item} {ts : List PlacedLexeme} {t : Tree} {rest : List PlacedLexeme} → Reads i ts t rest → Spells i ts t rest
  sound (reads_token a) = spells_token a
  sound (reads_rule l c) = let k = choice_sound c in spells_rule l k.1 k.2

  choice_sound : {gs : List Guarded} {otherwise : List Item} {ts : List PlacedLexeme} {t : Trees} {rest : List PlacedLexeme}
      → ReadsChoice gs otherwise ts t rest → (items : List Item) × Among gs otherwise items × SpellsAll [] items ts t rest
  choice_sound (reads_this {g = g} e h) = (g.items, among_this, all_sound h)
  choice_sound (reads_other e h) = let k = choice_sound h in (k.0, among_other k.1, k.2)
  choice_sound (reads_else {otherwise = o} h) = (o, among_else, all_sound h)

  all_sound : {bound : List ℕ} {is : List Item} {ts : List PlacedLexeme} {t : Trees} {rest : List PlacedLexeme}
      → ReadsAll bound is ts t rest → SpellsAll bound is ts t rest
  all_sound reads_none = spells_none
  all_sound (reads_more h hs) = spells_more (sound h) (all_sound hs)

-- a whole text is read
pub text_read : {ts : List PlacedLexeme} {t : Tree} → IsText ts t → Reads (rule a_module) ts t []
unfolding follows
text_read h = complete h (has_this refl refl)

pub one_text_tree : (ts : List PlacedLexeme) (t u : Tree) → IsText ts t → IsText ts u → t ≡ u
one_text_tree ts t u h k = (one_tree (text_read h) (text_read k)).0

pub refused : (ts : List PlacedLexeme) (e : Stuck) → Fails (rule a_module) ts e → NoneGoesOn ts e
refused ts (At n) f = λ us t g h. apart f g (text_read h)
refused ts Memory f = tt

-- more stands after a whole text
pub goes_no_further : (ts rest : List PlacedLexeme) (t : Tree) (n : ℕ) → Reads (rule a_module) ts t rest → n ≡ length rest
    → (next rest ≡ None → ⊥) → NoneGoesOn ts (At n)
goes_no_further ts rest t n h l some us u g k =
    let m = elsewhere h (omega arith) g in
    let e = (one_tree m.reads (text_read k)).1 in
    some (agree_next m.agree ∙ ap next e)

-- what was passed before the token that can't stand begins a text
pub text_begins : (ts : List PlacedLexeme) (e : Stuck) → Fails (rule a_module) ts e → BeginsText ts e
text_begins ts (At n) f = let k = viable [] f in (k.all, k.tree, k.begins, k.spells)
text_begins ts Memory f = tt

-- so does a whole text with more after it
all_begin : (ts : List PlacedLexeme) {n : ℕ} {us : List PlacedLexeme} {t : Tree} → Moved (rule a_module) n ts t us → us ≡ []
    → (all : List PlacedLexeme) × (tree : Tree) × Begins n ts all × IsText all tree
all_begin ts k e = (k.all, k.tree, k.begins, subst (λ (us : List PlacedLexeme). Spells (rule a_module) k.all k.tree us) e k.spells)

pub whole_begins : (ts rest : List PlacedLexeme) (t : Tree) (n : ℕ) → Reads (rule a_module) ts t rest → n ≡ length rest → BeginsText ts (At n)
whole_begins ts rest t n h l = all_begin ts (moved {us = []} h (begins_end l)) refl

-- what a refusal says
pub refusal : (ts : List PlacedLexeme) (e : Stuck) → IsRefusedAt ts e → NoneGoesOn ts e × BeginsText ts e
refusal ts e (refused_within f) = (refused ts e f, text_begins ts e f)
refusal ts _ (refused_behind {rest = rest} {t = t} {n = n} h l some) = (goes_no_further ts rest t n h l some, whole_begins ts rest t n h l)

-- one token tells
pub told : (ts : List PlacedLexeme) (t : Tree) → IsText ts t ↔ Reads (rule a_module) ts t []
told ts t = (text_read, sound)
