-- The contracts of the parser's functions: a rule is read, or it is read up to the rule at its end, which is still to
-- be read.
use Rattle.std.specs.Prelude.{List, map, Result, MatchResult, ℕ, ◌≡◌, Bool, true, false, [], ◌∷◌, ◌++◌, Option, None}
use Rattle.tp_syntax.specs.Lexeme.{PlacedLexeme, placed_lexeme}
use Rattle.tp_syntax.specs.Item.{Item, rule, Guarded, Choice, of_symbol, choose, at_symbol, before, one_of, next}
use Rattle.tp_syntax.specs.Reading.{Tree, Reads, Fails, node, Trees, none, more, ReadsAll, FailsAll, noted, bound_by}
use Rattle.tp_syntax.specs.Reading.{known, of, one, sym}
use Rattle.tp_syntax.specs.declared.stuck.Stuck.{Stuck}
use Rattle.tp_syntax.specs.declared.cursor.Parser.{Parser}
use Rattle.tp_syntax.specs.declared.parts.End.{End}
use Rattle.tp_syntax.specs.declared.token.Symbol.TheVariants.{Semicolon, RightBrace}
use Rattle.tp_syntax.specs.Rule.{Rule, closing, may_end}
use Rattle.tp_syntax.specs.Grammar.{production, notes_line}

-- the tokens that are left to read
abbrev pub left : Parser → List PlacedLexeme
left p = map placed_lexeme p.rest.now

-- the item is read, and this is its tree; or it can't be read, and this is the place where reading fails; or memory ran
-- out
pub record Parses {A : Type 0} (i : Item) (view : A → Tree)
    (p : Parser) (result : Result A Stuck) (q : Parser) : Type 0 where
  pub parsed : MatchResult result (λ x. Reads i (left p) (view x) (left q))
      (λ e. Fails i (left p) e)

-- a node without its last tree
pub data Frame : Type 0 where
  frame : Rule → Option ℕ → List Tree → Frame

abbrev pub with_last : List Tree → Tree → Trees
with_last [] t = one t
with_last (x ∷ xs) t = more x (with_last xs t)

-- the tree of these frames: each gets the next one as its last tree, and the last frame gets this tree
abbrev pub under : List Frame → Tree → Tree
under [] t = t
under (frame r line trees ∷ fs) t = node r line (with_last trees (under fs t))

-- the first rule is read from the front of the tokens up to the second rule, which is at its end and still to be read
mutual
  pub data Leads : Rule → List PlacedLexeme → List Frame → Rule → List PlacedLexeme → Type 0 where
    leads_here : {r : Rule} {ts : List PlacedLexeme} → Leads r ts [] r ts
    leads_rule : {r q : Rule} {ts us : List PlacedLexeme} {line : Option ℕ} {trees : List Tree}
        {fs : List Frame}
        → line ≡ noted r ts
        → LeadsChoice (production r).guarded (production r).otherwise ts trees fs q us
        → Leads r ts (frame r line trees ∷ fs) q us

  pub data LeadsChoice : List Guarded → List Item → List PlacedLexeme → List Tree → List Frame
      → Rule → List PlacedLexeme → Type 0 where
    leads_this : {g : Guarded} {gs : List Guarded} {otherwise : List Item} {q : Rule}
        {ts us : List PlacedLexeme} {trees : List Tree} {fs : List Frame}
        → one_of g.guards (next ts) ≡ true → LeadsAll [] g.items ts trees fs q us
        → LeadsChoice (g ∷ gs) otherwise ts trees fs q us
    leads_other : {g : Guarded} {gs : List Guarded} {otherwise : List Item} {q : Rule}
        {ts us : List PlacedLexeme} {trees : List Tree} {fs : List Frame}
        → one_of g.guards (next ts) ≡ false → LeadsChoice gs otherwise ts trees fs q us
        → LeadsChoice (g ∷ gs) otherwise ts trees fs q us
    leads_else : {otherwise : List Item} {q : Rule} {ts us : List PlacedLexeme} {trees : List Tree}
        {fs : List Frame}
        → LeadsAll [] otherwise ts trees fs q us → LeadsChoice [] otherwise ts trees fs q us

  pub data LeadsAll : List ℕ → List Item → List PlacedLexeme → List Tree → List Frame → Rule
      → List PlacedLexeme → Type 0 where
    leads_last : {bound : List ℕ} {r q : Rule} {ts us : List PlacedLexeme} {fs : List Frame}
        → Leads r ts fs q us → LeadsAll bound (rule r ∷ []) ts [] fs q us
    leads_more : {bound : List ℕ} {i : Item} {is : List Item} {q : Rule}
        {ts mid us : List PlacedLexeme} {t : Tree} {trees : List Tree} {fs : List Frame}
        → Reads (known bound i) ts t mid → LeadsAll (bound_by bound i t) is mid trees fs q us
        → LeadsAll bound (i ∷ is) ts (t ∷ trees) fs q us

-- the rule is read up to another one at its end; or it can't be read, and this is the place where reading fails; or
-- memory ran out
pub record Goes {A : Type 0} (r : Rule) (frames : A → List Frame) (onto : A → Rule) (p : Parser)
    (result : Result A Stuck) (q : Parser) : Type 0 where
  pub gone : MatchResult result (λ x. Leads r (left p) (frames x) (onto x) (left q))
      (λ e. Fails (rule r) (left p) e)

-- these items of a rule are read, or reading fails at this place, or memory ran out
pub record ParsesAll {A : Type 0} (items : List Item) (view : A → Trees) (p : Parser)
    (result : Result A Stuck) (q : Parser) : Type 0 where
  pub parsed : MatchResult result (λ x. ReadsAll [] items (left p) (view x) (left q))
      (λ e. FailsAll [] items (left p) e)

-- one frame after the other
abbrev pub all_frames : {A : Type 0} → (A → List Frame) → List A → List Frame
all_frames f [] = []
all_frames f (x ∷ xs) = f x ++ all_frames f xs

-- the end of a list, or one more part of it
abbrev pub listed : Rule → Choice
listed p = choose (before (of_symbol RightBrace ∷ []) (rule closing ∷ []) ∷ []) (rule p ∷ [])

-- a `;` and the list, or the end of the list
abbrev pub ended : Rule → Choice
ended l = choose (at_symbol Semicolon (rule l ∷ []) ∷ []) (rule closing ∷ [])

abbrev pub enter : Rule → List Frame
enter l = frame l None [] ∷ []

abbrev pub end_frames : Rule → Rule → Bool → List Frame
end_frames r l true = frame r None (sym Semicolon ∷ []) ∷ enter l
end_frames r l false = enter r

-- the next part of a list that goes on, or its end
abbrev pub part_or_end : Rule → Bool → Rule
part_or_end p true = p
part_or_end p false = closing

abbrev pub closing_tree : Tree
closing_tree = of closing (one (sym RightBrace))

abbrev pub may_end_tree : Bool → Tree
may_end_tree true = of may_end (one (sym Semicolon))
may_end_tree false = of may_end none

-- an optional `;`
abbrev pub semicolon_frames : Rule → Bool → List Frame
semicolon_frames r true = frame r None (sym Semicolon ∷ []) ∷ []
semicolon_frames r false = enter r

-- the result is whether a list has a further part here
pub record Enters (p : Parser) (result : Bool) : Type 0 where
  pub entered : (l q : Rule) → production l ≡ listed q → notes_line l ≡ false
      → Leads l (left p) (enter l) (part_or_end q result) (left p)

-- the result is whether a `;` was passed, and whether the list has a further part after it
pub record Ends (p : Parser) (result : End) (q : Parser) : Type 0 where
  pub ended : (r l part : Rule) → production r ≡ ended l → production l ≡ listed part
      → notes_line r ≡ false → notes_line l ≡ false
      → Leads r (left p) (end_frames r l result.has_semicolon) (part_or_end part result.is_open)
      (left q)

-- the result is whether a `;` was passed
pub record HasEnd (p : Parser) (result : Bool) (q : Parser) : Type 0 where
  pub ended : (r l : Rule) → production r ≡ ended l → notes_line r ≡ false
      → Leads r (left p) (semicolon_frames r result) (part_or_end l result) (left q)
