-- The answer to demands.
use Rattle.std.specs.Prelude.{ℕ, ◌<◌, List, All, slice_index}
use Rattle.tp_judge.specs.declared.demand.Demand.{Demand}
use Rattle.tp_judge.specs.declared.answer.Answer.{Answer}
use Rattle.tp_judge.specs.declared.answer.Answer.TheVariants as answer
use Rattle.tp_judge.specs.Order.{IsOrder, CanBeOrdered}
use Rattle.tp_judge.specs.Circle.{IsCircle, LiesOnCircle}

-- an order that meets the demands, or, if there is none, a circle of them
abbrev pub IsAnswer : ℕ → List Demand → Answer → Type 0
IsAnswer count demands (answer.Ordered order) = IsOrder count demands order.items
IsAnswer count demands (answer.Circle circle) = All (λ x. x < count) circle.items
    × IsCircle demands circle.items × LiesOnCircle demands (slice_index circle.items 0)
    × (CanBeOrdered count demands → ⊥)
