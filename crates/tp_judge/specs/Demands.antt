-- The demands that an order of the lines must meet.
use Rattle.std.specs.Prelude.{ℕ, zero, suc, Bool, true, false, Option, Some, None, List, [], ◌∷◌, ◌++◌, drop, length}
use Rattle.std.specs.Prelude.{slice_get}
use Rattle.tp_judge.specs.declared.demand.Demand.{Demand}
use Rattle.tp_judge.specs.declared.line.IndexedLine.{IndexedLine}
use Rattle.tp_judge.specs.declared.trace.IndexedTrace.{IndexedTrace}
use Rattle.tp_judge.specs.Before.{section_of, sent_on, came_on}

-- the demands that each of the first lines comes before the one at the same place among the others
abbrev pub pairs : List IndexedLine → List IndexedLine → List Demand
pairs [] bs = []
pairs (a ∷ as') [] = []
pairs (a ∷ as') (b ∷ bs) = record { before = a.number; after = b.number } ∷ pairs as' bs

-- the demands of the numbers below n, one list after another
abbrev pub from_each : (ℕ → List Demand) → ℕ → List Demand
from_each f zero = []
from_each f (suc n) = from_each f n ++ f n

-- each line of a section comes before the next
abbrev pub section_demands : IndexedTrace → ℕ → List Demand
section_demands trace component = pairs (section_of trace component) (drop 1 (section_of trace component))

abbrev pub where_joined : Option Bool → List Demand → List Demand
where_joined (Some true) demands = demands
where_joined (Some false) demands = []
where_joined None demands = []

-- each sending on the route comes before its arrival, if both ends of the route have a section
abbrev pub route_demands : IndexedTrace → ℕ → List Demand
route_demands trace route =
    where_joined (slice_get trace.joined.items route) (pairs (sent_on trace route) (came_on trace route))

abbrev pub demands_of : IndexedTrace → List Demand
demands_of trace = from_each (section_demands trace) trace.components
    ++ from_each (route_demands trace) (length trace.joined.items)
