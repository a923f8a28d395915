-- The demands by their places in the list.
use Rattle.std.specs.Prelude.{ℕ, List, slice_index_or}
use Rattle.tp_judge.specs.declared.demand.Demand.{Demand}

-- the placeholder for a demand past the end of a list
abbrev pub no_demand : Demand
no_demand = record { before = 0; after = 0 }

-- the number that comes first by the demand at this place
abbrev pub before_at : List Demand → ℕ → ℕ
before_at demands k = (slice_index_or demands k no_demand).before

-- the number that comes second by it
abbrev pub after_at : List Demand → ℕ → ℕ
after_at demands k = (slice_index_or demands k no_demand).after
