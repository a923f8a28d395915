-- The rule of a floor: how many rest, and what the pass of each place knows.
use Rattle.std.specs.Prelude.{◌≡◌, ℕ, ◌+◌, ◌≤◌, List, sum}
use Rattle.tp_floor.specs.declared.floor.Counts.{Counts}

-- the number at rest is the sum of all places
abbrev pub AreCounted : Counts → List ℕ → Type 0
AreCounted counts places = counts.resting ≡ sum places

-- a place, which is part of the number at rest, changes from v to w, and this number changes by as much
abbrev pub ChangeTogether : ℕ → Counts → Counts → ℕ → Type 0
ChangeTogether v x y w = (v ≤ x.resting) × (y.resting + v ≡ x.resting + w)
