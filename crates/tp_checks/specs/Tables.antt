-- Names, as lists of bytes.
use Rattle.std.specs.Prelude.{ℕ, ◌≢◌, ◌<◌, ◌^◌, List, Option, length, position}
use Rattle.std.specs.{List.AllPairs, Str.bytes_eq}

-- no name occurs twice
abbrev pub AreDistinct : List (List ℕ) → Type 0
AreDistinct names = AllPairs (λ a b. a ≢ b) names

-- the place of a name, the first one if it occurs twice
abbrev pub place_of_name : List (List ℕ) → List ℕ → Option ℕ
place_of_name names name = position (bytes_eq name) names

-- distinct names, few enough for numbers of 32 bits
pub record IsNumbered (names : List (List ℕ)) : Type 0 where
  pub few : length names < 2 ^ 32
  pub distinct : AreDistinct names
