-- Parts in braces, each with a `;` after it, which the last may lack.
use Rattle.std.proofs.Common.{◌≡◌, Bool, true, false, List, [], ◌∷◌, ◌++◌, refl, sym, subst, ◌∙◌, append_assoc}
use Rattle.std.proofs.lemmas.List.{append-nil}
use Rattle.tp_syntax.specs.Lexeme.{PlacedLexeme}
use Rattle.tp_syntax.specs.declared.token.Symbol.TheVariants.{RightBrace, Semicolon}
use Rattle.tp_syntax.specs.declared.stuck.Stuck.{Stuck}
use Rattle.tp_syntax.specs.Item.{token, rule, sy, of_symbol, Choice, choose, at_symbol, accepts, next}
use Rattle.tp_syntax.specs.Rule.{Rule}
use Rattle.tp_syntax.specs.Grammar.{production, notes_line}
use Rattle.tp_syntax.specs.Reading.{Tree, Reads, ReadsChoice, Fails, FailsChoice, reads_rule, reads_this, reads_other, reads_else, reads_none, reads_more, fails_rule, fails_other, fails_this, fails_else, fails_here, fails_later, more, of, one, sym as symbol_leaf}
use Rattle.tp_syntax.specs.DefinitionTrees.{steps}

-- this rule is a row of others, each with what ends it, after which the row goes on
pub record InSteps (q m e : Rule) : Type 0 where
  pub goes : production m ≡ choose (at_symbol RightBrace [] ∷ []) (rule q ∷ rule e ∷ [])
  pub ends : production e ≡ choose (at_symbol Semicolon (rule m ∷ []) ∷ []) (sy RightBrace ∷ [])
  pub silent : (notes_line m ≡ false) × (notes_line e ≡ false)

-- a row, as far as it is read
pub record Stepped {A : Type 0} (m e : Rule) (view : A → Tree) (ends : A → Bool) (ts us : List PlacedLexeme) (xs : List A) : Type 0 where
  pub reads : (ys : List A) (rest : List PlacedLexeme) → Reads (rule m) us (steps m e view ends ys) rest → Reads (rule m) ts (steps m e view ends (xs ++ ys)) rest
  pub fails : (f : Stuck) → Fails (rule m) us f → Fails (rule m) ts f

module _ {q m e : Rule} where
  -- a part and what ends it
  part_reads : {us vs rest : List PlacedLexeme} {t u : Tree} → InSteps q m e → accepts (of_symbol RightBrace) (next us) ≡ false → Reads (rule q) us t vs
      → Reads (rule e) vs u rest → Reads (rule m) us (of m (more t (one u))) rest
  part_reads {us} {vs} {rest} {t} {u} in_steps a h k = reads_rule (rw in_steps.silent.0 refl)
      (subst (λ (c : Choice). ReadsChoice c.guarded c.otherwise us (more t (one u)) rest) (sym in_steps.goes)
      (reads_other a (reads_else (reads_more h (reads_more k reads_none)))))

  part_fails : {us vs : List PlacedLexeme} {t : Tree} {f : Stuck} → InSteps q m e → accepts (of_symbol RightBrace) (next us) ≡ false → Reads (rule q) us t vs
      → Fails (rule e) vs f → Fails (rule m) us f
  part_fails {us} {f = f} in_steps a h k = fails_rule
      (subst (λ (c : Choice). FailsChoice c.guarded c.otherwise us f) (sym in_steps.goes) (fails_other a (fails_else (fails_later h (fails_here k)))))

  end_reads : {vs ws rest : List PlacedLexeme} {t : Tree} → InSteps q m e → accepts (of_symbol Semicolon) (next vs) ≡ true
      → Reads (token (of_symbol Semicolon)) vs (symbol_leaf Semicolon) ws → Reads (rule m) ws t rest → Reads (rule e) vs (of e (more (symbol_leaf Semicolon) (one t))) rest
  end_reads {vs} {rest = rest} {t = t} in_steps a h k = reads_rule (rw in_steps.silent.1 refl)
      (subst (λ (c : Choice). ReadsChoice c.guarded c.otherwise vs (more (symbol_leaf Semicolon) (one t)) rest) (sym in_steps.ends)
      (reads_this a (reads_more h (reads_more k reads_none))))

  end_last : {vs ws : List PlacedLexeme} → InSteps q m e → accepts (of_symbol Semicolon) (next vs) ≡ false
      → Reads (token (of_symbol RightBrace)) vs (symbol_leaf RightBrace) ws → Reads (rule e) vs (of e (one (symbol_leaf RightBrace))) ws
  end_last {vs} {ws} in_steps a k = reads_rule (rw in_steps.silent.1 refl)
      (subst (λ (c : Choice). ReadsChoice c.guarded c.otherwise vs (one (symbol_leaf RightBrace)) ws) (sym in_steps.ends)
      (reads_other a (reads_else (reads_more k reads_none))))

  end_fails : {vs ws : List PlacedLexeme} {f : Stuck} → InSteps q m e → accepts (of_symbol Semicolon) (next vs) ≡ true
      → Reads (token (of_symbol Semicolon)) vs (symbol_leaf Semicolon) ws → Fails (rule m) ws f → Fails (rule e) vs f
  end_fails {vs} {f = f} in_steps a h k = fails_rule
      (subst (λ (c : Choice). FailsChoice c.guarded c.otherwise vs f) (sym in_steps.ends) (fails_this a (fails_later h (fails_here k))))

module _ {A : Type 0} {m e : Rule} {view : A → Tree} {ends : A → Bool} where
  pub stepped_first : {ts : List PlacedLexeme} {xs : List A} → xs ≡ [] → Stepped m e view ends ts ts xs
  stepped_first e = rw e record { reads = λ ys rest h. h; fails = λ f h. h }

module _ {A : Type 0} {q m e : Rule} {view : A → Tree} {ends : A → Bool} where
  pub stepped_more : {ts us vs ws : List PlacedLexeme} {xs ys : List A} {x : A} → InSteps q m e → Stepped m e view ends ts us xs → ys ≡ xs ++ x ∷ []
      → accepts (of_symbol RightBrace) (next us) ≡ false → Reads (rule q) us (view x) vs → accepts (of_symbol Semicolon) (next vs) ≡ ends x → ends x ≡ true
      → Reads (token (of_symbol Semicolon)) vs (symbol_leaf Semicolon) ws → Stepped m e view ends ts ws ys
  stepped_more {ts} {us} {vs} {ws} {xs} {ys} {x} in_steps so grown a h b comes k = record {
    reads = λ zs rest r. rw (grown, append_assoc) (so.reads (x ∷ zs) rest
        (part_reads in_steps a h (rw comes (end_reads in_steps (b ∙ comes) k r))));
    fails = λ f r. so.fails f (part_fails in_steps a h (end_fails in_steps (b ∙ comes) k r));
  }

  -- the last part has no `;`
  pub stepped_last : {ts us vs ws : List PlacedLexeme} {xs ys : List A} {x : A} → InSteps q m e → Stepped m e view ends ts us xs → ys ≡ xs ++ x ∷ []
      → accepts (of_symbol RightBrace) (next us) ≡ false → Reads (rule q) us (view x) vs → accepts (of_symbol Semicolon) (next vs) ≡ ends x → ends x ≡ false
      → Reads (token (of_symbol RightBrace)) vs (symbol_leaf RightBrace) ws → Reads (rule m) ts (steps m e view ends ys) ws
  stepped_last {ts} {us} {vs} {ws} {xs} {ys} {x} in_steps so grown a h b comes k = rw grown (so.reads (x ∷ []) ws
      (part_reads in_steps a h (rw comes (end_last in_steps (b ∙ comes) k))))

  pub stepped_end : {ts us vs : List PlacedLexeme} {xs : List A} → InSteps q m e → Stepped m e view ends ts us xs → accepts (of_symbol RightBrace) (next us) ≡ true
      → Reads (token (of_symbol RightBrace)) us (symbol_leaf RightBrace) vs → Reads (rule m) ts (steps m e view ends xs) vs
  stepped_end {ts} {us} {vs} {xs} in_steps so a h = subst (λ (zs : List A). Reads (rule m) ts (steps m e view ends zs) vs) (append-nil xs)
      (so.reads [] vs (reads_rule (rw in_steps.silent.0 refl)
      (subst (λ (c : Choice). ReadsChoice c.guarded c.otherwise us (one (symbol_leaf RightBrace)) vs) (sym in_steps.goes) (reads_this a (reads_more h reads_none)))))
