-- Lists that only grow at their end.
use Rattle.std.specs.Prelude.{◌≡◌, ◌⊎◌, ℕ, Some, List, Contains, slice_get}

-- each element of the first list is at the same place in the second
abbrev pub Keeps : {X : Type 0} → List X → List X → Type 0
Keeps {X} old new = (k : ℕ) (x : X) → slice_get old k ≡ Some x → slice_get new k ≡ Some x

-- each element of the second list was at the same place in the first, or is this one
abbrev pub AddsOnly : {X : Type 0} → List X → X → List X → Type 0
AddsOnly {X} old x new = (k : ℕ) (y : X) → slice_get new k ≡ Some y → (slice_get old k ≡ Some y) ⊎ (x ≡ y)

-- none of the others is among the names
abbrev pub AreOthers : List (List ℕ) → List (List ℕ) → Type 0
AreOthers names others = (k : ℕ) (name : List ℕ) → slice_get others k ≡ Some name → Contains names name → ⊥
