-- How tokens are read by the grammar, and where reading fails.
use Rattle.std.specs.Prelude.{ℕ, ◌≡◌, true, false, cond, List, [], ◌∷◌, Option, Some, None, length}
use Rattle.tp_syntax.specs.declared.token.Symbol.{Symbol}
use Rattle.tp_syntax.specs.declared.token.Symbol.TheVariants.{Comma}
use Rattle.tp_syntax.specs.Lexeme.{Lexeme, name, symbol, PlacedLexeme}
use Rattle.tp_syntax.specs.declared.stuck.Stuck.{Stuck}
use Rattle.tp_syntax.specs.declared.stuck.Stuck.TheVariants.{At, Memory}
use Rattle.tp_syntax.specs.Item.{Terminal, binds, same, this_name, Item, token, rule, Guarded, accepts, one_of, next}
use Rattle.tp_syntax.specs.Rule.{Rule}
use Rattle.tp_syntax.specs.Grammar.{production, notes_line}

-- a tree: a token, or the node of a rule, with the line that the rule notes
mutual
  pub data Tree : Type 0 where
    leaf : Lexeme → Tree
    node : Rule → Option ℕ → Trees → Tree

  pub data Trees : Type 0 where
    none : Trees
    more : Tree → Trees → Trees

abbrev pub trees_of : List Tree → Trees
trees_of [] = none
trees_of (t ∷ ts) = more t (trees_of ts)

-- a rule's node without a line: of these trees; of the trees in this list
abbrev pub of : Rule → Trees → Tree
of r trees = node r None trees

abbrev pub tree : Rule → List Tree → Tree
tree r ts = of r (trees_of ts)

abbrev pub one : Tree → Trees
one t = more t none

abbrev pub sym : Symbol → Tree
sym s = leaf (symbol s)

-- in place of a tree that can't come
abbrev pub nothing : Tree
nothing = leaf (name [])

-- a `,` and a tree, as often as there are trees
abbrev pub chain : Rule → List Tree → Tree
chain r [] = of r none
chain r (t ∷ ts) = tree r (sym Comma ∷ t ∷ chain r ts ∷ [])

-- the line that a rule notes, if it notes one: that of the next token
abbrev pub line_ahead : List PlacedLexeme → ℕ
line_ahead [] = 0
line_ahead (p ∷ ps) = p.line

abbrev pub noted : Rule → List PlacedLexeme → Option ℕ
noted r ts = cond (notes_line r) (Some (line_ahead ts)) None

-- the name that is bound after this item
abbrev pub bound_by : List ℕ → Item → Tree → List ℕ
bound_by bound (token binds) (leaf (name n)) = n
bound_by bound _ _ = bound

-- the item, once this name is bound: `same` then accepts only this name
abbrev pub known : List ℕ → Item → Item
known bound (token same) = token (this_name bound)
known bound i = i

-- the item is read from the front of the tokens as this tree, and these are left. `ReadsChoice` reads the first
-- alternative that fits, `ReadsAll` all items
mutual
  pub data Reads : Item → List PlacedLexeme → Tree → List PlacedLexeme → Type 0 where
    reads_token : {t : Terminal} {p : PlacedLexeme} {ps : List PlacedLexeme}
        → accepts t (Some p.token) ≡ true
        → Reads (token t) (p ∷ ps) (leaf p.token) ps
    reads_rule : {r : Rule} {ts : List PlacedLexeme} {trees : Trees} {rest : List PlacedLexeme}
        {line : Option ℕ}
        → line ≡ noted r ts
        → ReadsChoice (production r).guarded (production r).otherwise ts trees rest
        → Reads (rule r) ts (node r line trees) rest

  pub data ReadsChoice : List Guarded → List Item → List PlacedLexeme → Trees → List PlacedLexeme
      → Type 0 where
    reads_this : {g : Guarded} {gs : List Guarded} {otherwise : List Item} {ts : List PlacedLexeme}
        {trees : Trees} {rest : List PlacedLexeme}
        → one_of g.guards (next ts) ≡ true → ReadsAll [] g.items ts trees rest
        → ReadsChoice (g ∷ gs) otherwise ts trees rest
    reads_other : {g : Guarded} {gs : List Guarded} {otherwise : List Item} {ts : List PlacedLexeme}
        {trees : Trees} {rest : List PlacedLexeme}
        → one_of g.guards (next ts) ≡ false → ReadsChoice gs otherwise ts trees rest
        → ReadsChoice (g ∷ gs) otherwise ts trees rest
    reads_else : {otherwise : List Item} {ts : List PlacedLexeme} {trees : Trees}
        {rest : List PlacedLexeme}
        → ReadsAll [] otherwise ts trees rest → ReadsChoice [] otherwise ts trees rest

  pub data ReadsAll : List ℕ → List Item → List PlacedLexeme → Trees → List PlacedLexeme
      → Type 0 where
    reads_none : {bound : List ℕ} {ts : List PlacedLexeme} → ReadsAll bound [] ts none ts
    reads_more : {bound : List ℕ} {i : Item} {is : List Item} {ts mid rest : List PlacedLexeme}
        {t : Tree} {trees : Trees}
        → Reads (known bound i) ts t mid → ReadsAll (bound_by bound i t) is mid trees rest
        → ReadsAll bound (i ∷ is) ts (more t trees) rest

-- the item can't be read: reading stops where this many tokens are left, the first of which isn't accepted; or memory
-- ran out
mutual
  pub data Fails : Item → List PlacedLexeme → Stuck → Type 0 where
    fails_memory : {i : Item} {ts : List PlacedLexeme} → Fails i ts Memory
    fails_token : {t : Terminal} {ts : List PlacedLexeme} {left : ℕ}
        → accepts t (next ts) ≡ false → left ≡ length ts → Fails (token t) ts (At left)
    fails_rule : {r : Rule} {ts : List PlacedLexeme} {e : Stuck}
        → FailsChoice (production r).guarded (production r).otherwise ts e → Fails (rule r) ts e

  pub data FailsChoice : List Guarded → List Item → List PlacedLexeme → Stuck → Type 0 where
    fails_this : {g : Guarded} {gs : List Guarded} {otherwise : List Item} {ts : List PlacedLexeme}
        {e : Stuck}
        → one_of g.guards (next ts) ≡ true → FailsAll [] g.items ts e
        → FailsChoice (g ∷ gs) otherwise ts e
    fails_other : {g : Guarded} {gs : List Guarded} {otherwise : List Item} {ts : List PlacedLexeme}
        {e : Stuck}
        → one_of g.guards (next ts) ≡ false → FailsChoice gs otherwise ts e
        → FailsChoice (g ∷ gs) otherwise ts e
    fails_else : {otherwise : List Item} {ts : List PlacedLexeme} {e : Stuck}
        → FailsAll [] otherwise ts e → FailsChoice [] otherwise ts e

  pub data FailsAll : List ℕ → List Item → List PlacedLexeme → Stuck → Type 0 where
    fails_here : {bound : List ℕ} {i : Item} {is : List Item} {ts : List PlacedLexeme} {e : Stuck}
        → Fails (known bound i) ts e → FailsAll bound (i ∷ is) ts e
    fails_later : {bound : List ℕ} {i : Item} {is : List Item} {ts mid : List PlacedLexeme}
        {t : Tree} {e : Stuck}
        → Reads (known bound i) ts t mid → FailsAll (bound_by bound i t) is mid e
        → FailsAll bound (i ∷ is) ts e

-- these items are one of the alternatives
pub data Among : List Guarded → List Item → List Item → Type 0 where
  among_this : {g : Guarded} {gs : List Guarded} {otherwise : List Item}
      → Among (g ∷ gs) otherwise g.items
  among_other : {g : Guarded} {gs : List Guarded} {otherwise items : List Item}
      → Among gs otherwise items → Among (g ∷ gs) otherwise items
  among_else : {otherwise : List Item} → Among [] otherwise otherwise

-- the tokens before the rest spell this tree of the item, or these trees of the items
mutual
  pub data Spells : Item → List PlacedLexeme → Tree → List PlacedLexeme → Type 0 where
    spells_token : {t : Terminal} {p : PlacedLexeme} {ps : List PlacedLexeme}
        → accepts t (Some p.token) ≡ true
        → Spells (token t) (p ∷ ps) (leaf p.token) ps
    spells_rule : {r : Rule} {items : List Item} {ts : List PlacedLexeme} {trees : Trees}
        {rest : List PlacedLexeme} {line : Option ℕ}
        → line ≡ noted r ts → Among (production r).guarded (production r).otherwise items
        → SpellsAll [] items ts trees rest
        → Spells (rule r) ts (node r line trees) rest

  pub data SpellsAll : List ℕ → List Item → List PlacedLexeme → Trees → List PlacedLexeme
      → Type 0 where
    spells_none : {bound : List ℕ} {ts : List PlacedLexeme} → SpellsAll bound [] ts none ts
    spells_more : {bound : List ℕ} {i : Item} {is : List Item} {ts mid rest : List PlacedLexeme}
        {t : Tree} {trees : Trees}
        → Spells (known bound i) ts t mid → SpellsAll (bound_by bound i t) is mid trees rest
        → SpellsAll bound (i ∷ is) ts (more t trees) rest
