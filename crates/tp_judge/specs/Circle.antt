-- Demands that go round in a circle.
use Rattle.std.specs.Prelude.{ℕ, zero, suc, ◌+◌, ◌-◌, ◌<◌, List, Contains, length, slice_index}
use Rattle.tp_judge.specs.declared.demand.Demand.{Demand}

-- one demand wants the first number before the second
abbrev pub IsDemandedBefore : List Demand → ℕ → ℕ → Type 0
IsDemandedBefore demands x y = Contains demands (record { before = x; after = y })

-- the first number has to come before the second, by one demand more than `further`, end to end
abbrev pub LeadsThrough : List Demand → ℕ → ℕ → ℕ → Type 0
LeadsThrough demands zero x y = IsDemandedBefore demands x y
LeadsThrough demands (suc further) x y =
    (z : ℕ) × IsDemandedBefore demands x z × LeadsThrough demands further z y

-- by one demand or more the number has to come before itself
abbrev pub LiesOnCircle : List Demand → ℕ → Type 0
LiesOnCircle demands x = (further : ℕ) × LeadsThrough demands further x x

-- the numbers form a circle: by R each comes before the next one, and the last one before the first
pub record IsCircleOf (R : ℕ → ℕ → Type 0) (circle : List ℕ) : Type 0 where
  pub some : 0 < length circle
  pub next : (i : ℕ) → i + 1 < length circle → R (slice_index circle i) (slice_index circle (i + 1))
  pub round : R (slice_index circle (length circle - 1)) (slice_index circle 0)

-- the numbers form a circle of these demands
abbrev pub IsCircle : List Demand → List ℕ → Type 0
IsCircle demands circle = IsCircleOf (IsDemandedBefore demands) circle
