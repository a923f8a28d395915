-- That some tokens stand for each rule: what is computed of each.
use Rattle.std.proofs.Common.{ℕ, zero, suc, nat_lt, Bool, true, not, ◌&&◌, ◌||◌, List, [], ◌∷◌, Some}
use Rattle.tp_syntax.specs.Lexeme.{Lexeme, name, word, number, text, symbol}
use Rattle.tp_syntax.specs.Item.{Terminal, of_word, of_symbol, exactly, this_name, a_number, a_text, positive, negated, a_pattern, same, Item, token, rule, Guarded, accepts}
use Rattle.tp_syntax.specs.Rule.{Rule}
use Rattle.tp_syntax.specs.Grammar.{production}
use Rattle.tp_syntax.proofs.FirstTokens.{nullable, rank}
use Rattle.tp_syntax.proofs.ShallowTexts.{shortest, depth}

-- a token of each kind
abbrev pub sample_of : Terminal → Lexeme
sample_of (of_word x) = word x
sample_of (of_symbol x) = symbol x
sample_of (exactly n) = number n
sample_of (this_name n) = name n
sample_of a_number = number 0
sample_of positive = number 0
sample_of negated = number 1
sample_of a_text = text []
sample_of a_pattern = text []
sample_of _ = name []

abbrev pub at_place : ℕ → List Guarded → List Item → List Item
at_place n [] otherwise = otherwise
at_place zero (g ∷ gs) otherwise = g.items
at_place (suc n) (g ∷ gs) otherwise = at_place n gs otherwise

abbrev pub short_items : Rule → List Item
short_items r = at_place (shortest r) (production r).guarded (production r).otherwise

-- whether a token can stand for each item, and the rules are less deep
abbrev pub can_stand : Terminal → Bool
can_stand same = true
can_stand t = accepts t (Some (sample_of t))

abbrev pub are_below : ℕ → List Item → Bool
are_below m [] = true
are_below m (token t ∷ is) = can_stand t && are_below m is
are_below m (rule r ∷ is) = nat_lt (depth r) m && are_below m is

-- whether a token can stand for each item of each alternative
abbrev pub all_stand : List Guarded → List Item → Bool
all_stand [] otherwise = are_below 10 otherwise
all_stand (g ∷ gs) otherwise = are_below 10 g.items && all_stand gs otherwise

-- whether the rules with which the items may begin are of a lower rank: so no rule begins with itself
abbrev pub leads : ℕ → List Item → Bool
leads m [] = true
leads m (token t ∷ is) = true
leads m (rule r ∷ is) = nat_lt (rank r) m && (not (nullable r) || leads m is)

abbrev pub all_lead : ℕ → List Guarded → List Item → Bool
all_lead m [] otherwise = leads m otherwise
all_lead m (g ∷ gs) otherwise = leads m g.items && all_lead m gs otherwise

-- whether the rule's short alternative is shallower than the rule, tokens can stand for each of its alternatives, and it
-- doesn't begin with itself
abbrev pub is_shallow : Rule → Bool
is_shallow r =
    are_below (depth r) (short_items r) && (all_stand (production r).guarded (production r).otherwise
    && (nat_lt (rank r) 20 && all_lead (rank r) (production r).guarded (production r).otherwise))
