-- Parts after commas, read one after the other.
use Rattle.std.proofs.Common.{◌≡◌, Bool, true, false, List, [], ◌∷◌, ◌++◌, drop, map, refl, ap, sym, subst, ◌∙◌, append_assoc}
use Rattle.std.proofs.lemmas.List.{append-nil}
use Rattle.tp_syntax.specs.Lexeme.{PlacedLexeme}
use Rattle.tp_syntax.specs.declared.token.Symbol.TheVariants.{Comma}
use Rattle.tp_syntax.specs.declared.stuck.Stuck.{Stuck}
use Rattle.tp_syntax.specs.Item.{token, rule, of_symbol, choose, at_symbol, Choice, accepts, next}
use Rattle.tp_syntax.specs.Rule.{Rule}
use Rattle.tp_syntax.specs.Grammar.{production, notes_line}
use Rattle.tp_syntax.specs.Reading.{Tree, more, none, Reads, ReadsChoice, Fails, FailsChoice, reads_rule, reads_this, reads_other, reads_else, reads_none, reads_more, fails_rule, fails_this, fails_here, fails_later, of, one, sym as symbol_leaf, chain}

-- this rule is a chain of others after commas
pub record Separated (q r : Rule) : Type 0 where
  pub is : production r ≡ choose (at_symbol Comma (rule q ∷ rule r ∷ []) ∷ []) []
  pub silent : notes_line r ≡ false

-- a list that was begun with its first item, as far as it is read
pub record Gathered {A : Type 0} (r : Rule) (view : A → Tree) (first : A) (ts us : List PlacedLexeme) (xs : List A) : Type 0 where
  pub begins : xs ≡ first ∷ drop 1 xs
  pub reads : (ys : List A) (rest : List PlacedLexeme) → Reads (rule r) us (chain r (map view ys)) rest
      → Reads (rule r) ts (chain r (map view (drop 1 xs ++ ys))) rest
  pub fails : (f : Stuck) → Fails (rule r) us f → Fails (rule r) ts f

pub gathered_first : {A : Type 0} {r : Rule} {view : A → Tree} {first : A} {ts : List PlacedLexeme} {xs : List A}
    → xs ≡ [] ++ first ∷ [] → Gathered r view first ts ts xs
gathered_first e = rw e record { begins = refl; reads = λ ys rest h. h; fails = λ f h. h }

-- a list that begins so, with one more item
pub grown_begins : {A : Type 0} (xs ys : List A) (x y : A) → ys ≡ xs ++ y ∷ [] → xs ≡ x ∷ drop 1 xs → ys ≡ x ∷ drop 1 ys
grown_begins xs ys x y e b = let h : ys ≡ x ∷ (drop 1 xs ++ y ∷ []) = e ∙ ap (λ (zs : List _). zs ++ y ∷ []) b in h ∙ ap (λ (zs : List _). x ∷ drop 1 zs) (sym h)

pub grown_rest : {A : Type 0} (xs ys : List A) (x y : A) → ys ≡ xs ++ y ∷ [] → xs ≡ x ∷ drop 1 xs → drop 1 ys ≡ drop 1 xs ++ y ∷ []
grown_rest xs ys x y e b = ap (λ (zs : List _). drop 1 zs) (e ∙ ap (λ (zs : List _). zs ++ y ∷ []) b)

module _ {q r : Rule} where
  one_more : {ts mid after rest : List PlacedLexeme} {t u : Tree} → Separated q r → accepts (of_symbol Comma) (next ts) ≡ true
      → Reads (token (of_symbol Comma)) ts (symbol_leaf Comma) mid → Reads (rule q) mid t after → Reads (rule r) after u rest
      → Reads (rule r) ts (of r (more (symbol_leaf Comma) (more t (one u)))) rest
  one_more {ts} {rest = rest} {t = t} {u = u} chains a comma x y = reads_rule (rw chains.silent refl)
      (subst (λ (c : Choice). ReadsChoice c.guarded c.otherwise ts (more (symbol_leaf Comma) (more t (one u))) rest) (sym chains.is)
      (reads_this a (reads_more comma (reads_more x (reads_more y reads_none)))))

  one_more_fails : {ts mid after : List PlacedLexeme} {t : Tree} {f : Stuck} → Separated q r → accepts (of_symbol Comma) (next ts) ≡ true
      → Reads (token (of_symbol Comma)) ts (symbol_leaf Comma) mid → Reads (rule q) mid t after → Fails (rule r) after f → Fails (rule r) ts f
  one_more_fails {ts} {f = f} chains a comma x y = fails_rule
      (subst (λ (c : Choice). FailsChoice c.guarded c.otherwise ts f) (sym chains.is) (fails_this a (fails_later comma (fails_later x (fails_here y)))))

  pub gathered_more : {A : Type 0} {view : A → Tree} {first x : A} {ts us vs ws : List PlacedLexeme} {xs ys : List A} {b : Bool}
      → Separated q r → Gathered r view first ts us xs → ys ≡ xs ++ x ∷ [] → accepts (of_symbol Comma) (next us) ≡ b → b ≡ true
      → Reads (token (of_symbol Comma)) us (symbol_leaf Comma) vs → Reads (rule q) vs (view x) ws → Gathered r view first ts ws ys
  gathered_more {x = x} {xs = xs} {ys = ys} chains so e a comes comma h = record {
    begins = grown_begins xs ys _ _ e so.begins;
    reads = λ zs rest k. rw (grown_rest xs ys _ _ e so.begins, append_assoc) (so.reads (x ∷ zs) rest (one_more chains (a ∙ comes) comma h k));
    fails = λ f k. so.fails f (one_more_fails chains (a ∙ comes) comma h k);
  }

  pub gathered_all : {A : Type 0} {view : A → Tree} {first : A} {ts us : List PlacedLexeme} {xs : List A} {b : Bool}
      → Separated q r → Gathered r view first ts us xs → accepts (of_symbol Comma) (next us) ≡ b → b ≡ false
      → Reads (rule r) ts (chain r (map view (drop 1 xs))) us
  gathered_all {A} {view} {ts = ts} {us} {xs} chains so a ends =
      subst (λ (zs : List A). Reads (rule r) ts (chain r (map view zs)) us) (append-nil (drop 1 xs))
      (so.reads [] us (reads_rule (rw chains.silent refl)
      (subst (λ (c : Choice). ReadsChoice c.guarded c.otherwise us none us) (sym chains.is) (reads_other (a ∙ ends) (reads_else reads_none)))))
