-- The text before an item in braces, by the item's place.
use Rattle.std.specs.Prelude.{ℕ, zero, suc, List, [], codes}
use Rattle.tp_value.specs.ValueText.{comma_separated, more}

-- a comma and a space, but nothing before the first
abbrev pub separator : ℕ → List ℕ
separator zero = []
separator (suc n) = codes ", "

-- the text of the last items, from the one at this place on, each after its separator
abbrev pub listed_from : ℕ → List (List ℕ) → List ℕ
listed_from zero xs = comma_separated xs
listed_from (suc n) xs = more xs
