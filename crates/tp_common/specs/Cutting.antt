-- The lines of a text, and the words of a line.
use Rattle.std.specs.Prelude.{◌≡◌, ℕ, ◌-◌, ◌≤◌, ◌==◌, Bool, not, Option, Some, None, List, [], ◌∷◌, length, take, drop}
use Rattle.std.specs.Prelude.{cond}
use Rattle.std.specs.List.{onto_first, slice_split, list_all}

-- the lines of a text: each ends at a byte 10, which the last may lack
abbrev pub lines_of : List ℕ → List (List ℕ)
lines_of [] = []
lines_of (b ∷ bs) = cond (b == 10) ([] ∷ lines_of bs) (onto_first b (lines_of bs))

-- the text begins with the front
pub record IsFrontOf (text front : List ℕ) : Type 0 where
  pub shorter : length front ≤ length text
  pub is : front ≡ take (length front) text

-- the text ends with the rest
pub record IsLeftOf (text rest : List ℕ) : Type 0 where
  pub shorter : length rest ≤ length text
  pub is : rest ≡ drop (length text - length rest) text

abbrev pub is_space : ℕ → Bool
is_space b = b == 32

-- the words of a line: the parts before, between and after its spaces
abbrev pub words_of : List ℕ → List (List ℕ)
words_of line = slice_split is_space line

-- the words after the first one, in the rest of the line after its space: none if no space follows the first word
abbrev pub words_after : Option (List ℕ) → List (List ℕ)
words_after None = []
words_after (Some rest) = words_of rest

-- none of the bytes is this one
abbrev pub lacks : ℕ → List ℕ → Bool
lacks c bytes = list_all (λ b. not (b == c)) bytes

-- a space and the rest of the line after it, or nothing if there is no space
abbrev pub after_space : Option (List ℕ) → List ℕ
after_space None = []
after_space (Some rest) = 32 ∷ rest
