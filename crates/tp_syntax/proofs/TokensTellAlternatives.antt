-- That one token ahead tells the alternative: what is computed of each rule.
use Rattle.std.proofs.Common.{ℕ, nat_eq, Bool, true, false, cond, not, ◌||◌, ◌&&◌, List, [], ◌∷◌, ◌++◌, Option, Some, None}
use Rattle.tp_syntax.specs.Lexeme.{Lexeme, name, word, number, text, symbol}
use Rattle.tp_syntax.specs.Code.{word_code, symbol_code}
use Rattle.tp_syntax.specs.Item.{Terminal, of_word, of_symbol, exactly, this_name, a_name, a_number, a_text, positive, negated, a_pattern, binds, same, finish, Item, token, rule, Guarded}
use Rattle.tp_syntax.specs.Rule.{Rule}
use Rattle.tp_syntax.specs.Grammar.{production}
use Rattle.tp_syntax.proofs.FirstTokens.{nullable, firsts}
use Rattle.tp_syntax.proofs.FollowingTokens.{follows}

-- tokens by their kind: a class, and a number for a word or symbol
abbrev pub class_of : Terminal → ℕ
class_of (of_word x) = 1
class_of (of_symbol x) = 2
class_of (exactly n) = 4
class_of (this_name n) = 3
class_of a_name = 3
class_of a_number = 4
class_of a_text = 5
class_of a_pattern = 5
class_of positive = 4
class_of negated = 4
class_of binds = 3
class_of same = 3
class_of finish = 6

abbrev pub code_of : Terminal → ℕ
code_of (of_word x) = word_code x
code_of (of_symbol x) = symbol_code x
code_of _ = 0

abbrev pub class_ahead : Option Lexeme → ℕ
class_ahead None = 6
class_ahead (Some (name n)) = 3
class_ahead (Some (word x)) = 1
class_ahead (Some (number n)) = 4
class_ahead (Some (text bs)) = 5
class_ahead (Some (symbol x)) = 2

abbrev pub code_ahead : Option Lexeme → ℕ
code_ahead (Some (word x)) = word_code x
code_ahead (Some (symbol x)) = symbol_code x
code_ahead _ = 0

-- whether a guard is a kind as a whole
abbrev pub is_whole : Terminal → Bool
is_whole (exactly n) = false
is_whole (this_name n) = false
is_whole binds = false
is_whole same = false
is_whole a_pattern = false
is_whole positive = false
is_whole negated = false
is_whole _ = true

abbrev pub all_whole : List Terminal → Bool
all_whole [] = true
all_whole (t ∷ ts) = is_whole t && all_whole ts

abbrev pub is_kind : Terminal → Terminal → Bool
is_kind t u = nat_eq (class_of t) (class_of u) && nat_eq (code_of t) (code_of u)

abbrev pub is_in : Terminal → List Terminal → Bool
is_in t [] = false
is_in t (u ∷ us) = is_kind t u || is_in t us

abbrev pub all_in : List Terminal → List Terminal → Bool
all_in [] us = true
all_in (t ∷ ts) us = is_in t us && all_in ts us

abbrev pub none_in : List Terminal → List Terminal → Bool
none_in [] us = true
none_in (t ∷ ts) us = not (is_in t us) && none_in ts us

-- with what these items begin, where these tokens may stand after them
abbrev pub starts : List Item → List Terminal → List Terminal
starts [] behind = behind
starts (token t ∷ is) behind = t ∷ []
starts (rule r ∷ is) behind = cond (nullable r) (firsts r ++ starts is behind) (firsts r)

abbrev pub may_be_nothing : List Item → Bool
may_be_nothing [] = true
may_be_nothing (token t ∷ is) = false
may_be_nothing (rule r ∷ is) = nullable r && may_be_nothing is

-- whether what may stand after each rule among the items may stand after it
abbrev pub follow_fits : List Item → List Terminal → Bool
follow_fits [] behind = true
follow_fits (token t ∷ is) behind = follow_fits is behind
follow_fits (rule r ∷ is) behind = all_in (starts is behind) (follows r) && follow_fits is behind

-- whether the items are right as an alternative of the rule
abbrev pub items_fit : Rule → List Item → Bool
items_fit r is =
    follow_fits is (follows r) && (all_in (starts is []) (firsts r) && (not (may_be_nothing is) || nullable r))

-- whether these tokens begin no later alternative
abbrev pub later_apart : Rule → List Terminal → List Guarded → List Item → Bool
later_apart r guards [] otherwise = none_in (starts otherwise (follows r)) guards
later_apart r guards (g ∷ gs) otherwise = none_in (starts g.items (follows r)) guards && later_apart r guards gs otherwise

-- whether the alternatives are right, and one token tells which is meant
abbrev pub guarded_fit : Rule → List Guarded → List Item → Bool
guarded_fit r [] otherwise = items_fit r otherwise
guarded_fit r (g ∷ gs) otherwise =
    items_fit r g.items && (all_in (starts g.items (follows r)) g.guards
    && (all_whole g.guards && (later_apart r g.guards gs otherwise && guarded_fit r gs otherwise)))

abbrev pub is_right : Rule → Bool
is_right r = guarded_fit r (production r).guarded (production r).otherwise
