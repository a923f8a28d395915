-- One order of the numbers below a count, and what it means that it meets demands.
use Rattle.std.specs.Prelude.{◌≡◌, ℕ, ◌<◌, Some, List, slice_get, All}
use Rattle.tp_judge.specs.declared.demand.Demand.{Demand}

-- both numbers of the demand are below the count
abbrev pub IsBelow : ℕ → Demand → Type 0
IsBelow count d = (d.before < count) × (d.after < count)

-- the number is at this place of the list
abbrev pub IsNumberAt : List ℕ → ℕ → ℕ → Type 0
IsNumberAt order i x = slice_get order i ≡ Some x

-- each number below the count is at just one place of the list, and the list has no other number
pub record IsListing (count : ℕ) (order : List ℕ) : Type 0 where
  pub below : (i x : ℕ) → IsNumberAt order i x → x < count
  pub each : (x : ℕ) → x < count → (i : ℕ) × IsNumberAt order i x
  pub once : (i j x : ℕ) → IsNumberAt order i x → IsNumberAt order j x → i ≡ j

-- the first number is at some place of the list, and the second at a later one
abbrev pub StandsBefore : List ℕ → ℕ → ℕ → Type 0
StandsBefore order x y =
    (i : ℕ) × (j : ℕ) × (i < j) × IsNumberAt order i x × IsNumberAt order j y

-- the list has each number below the count once, and by each demand its first number comes before its second
pub record IsOrder (count : ℕ) (demands : List Demand) (order : List ℕ) : Type 0 where
  pub listing : IsListing count order
  pub met : All (λ d. StandsBefore order d.before d.after) demands

-- there is such an order
abbrev pub CanBeOrdered : ℕ → List Demand → Type 0
CanBeOrdered count demands = (order : List ℕ) × IsOrder count demands order
