-- The places of names. A name is the list of its bytes.
use Rattle.std.specs.Prelude.{◌≡◌, ◌≢◌, ◌<◌, ℕ, List, map, Some, slice_get}
use Rattle.tp_checks.specs.declared.name.BorrowedName.{BorrowedName}

-- the bytes of each name
abbrev pub texts : List BorrowedName → List (List ℕ)
texts names = map (λ n. n.text.now) names

-- k is the first place of the name
pub record IsPlace (names : List (List ℕ)) (name : List ℕ) (k : ℕ) : Type 0 where
  pub there : slice_get names k ≡ Some name
  pub first : (j : ℕ) → j < k → slice_get names j ≢ Some name

-- the name isn't in the list
abbrev pub IsAbsent : List (List ℕ) → List ℕ → Type 0
IsAbsent names name = (j : ℕ) → slice_get names j ≢ Some name
