-- A text has a word.
use Rattle.std.proofs.Common.{◌≡◌, ℕ, Bool, true, false, cond, List, [], ◌∷◌}
use Rattle.std.specs.List.{onto_first, slice_split}
use Rattle.tp_common.specs.Cutting.{is_space}

some_part : (b : Bool) (x : ℕ) (l m : List (List ℕ)) → cond b ([] ∷ l) (onto_first x m) ≡ [] → ⊥
some_part true x l m e = cc
some_part false x l [] e = cc
some_part false x l (part ∷ parts) e = cc

-- a text has a word, if only an empty one
pub some_word : (s : List ℕ) → slice_split is_space s ≡ [] → ⊥
some_word [] e = cc
some_word (x ∷ xs) e = some_part (is_space x) x (slice_split is_space xs) (slice_split is_space xs) e

-- where a space follows the first word, there are two words or more
pub more_words : (rest : List ℕ) (word only : List ℕ) (words : List (List ℕ)) → words ≡ word ∷ slice_split is_space rest → words ≡ only ∷ [] → ⊥
more_words rest word only words e f = let none : slice_split is_space rest ≡ [] = cc in some_word rest none
