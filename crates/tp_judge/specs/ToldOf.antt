-- All places that are reported for a trace that isn't lawful.
use Rattle.std.specs.Prelude.{◌≡◌, ◌+◌, ℕ, Option, Some, None, List, [], ◌∷◌, ◌++◌, length}
use Rattle.std.specs.List.Sorted.{IsPermutation}
use Rattle.std.specs.Option.{option_to_list}
use Rattle.tp_judge.specs.declared.place.UnlawfulPlace.{UnlawfulPlace}
use Rattle.tp_judge.specs.declared.trace.IndexedTrace.{IndexedTrace}
use Rattle.tp_judge.specs.Before.{NoCircle}
use Rattle.tp_judge.specs.Circles.{IsCirclePlace}
use Rattle.tp_judge.specs.Delivered.{Delivered, IsDeliveredAt, IsUnlawfulOn}
use Rattle.tp_judge.specs.Lawful.{IsLawfulAt, IsUnlawfulAt}

-- P holds for this place and for no other
pub record IsOnly (P : UnlawfulPlace → Type 0) (place : UnlawfulPlace) : Type 0 where
  pub is : P place
  pub no_other : (other : UnlawfulPlace) → P other → other ≡ place

-- for each of the first n that isn't lawful, the one place that can be reported for it, in their order; for the others
-- none
pub data OneForEach (lawful : ℕ → Type 0) (unlawful : ℕ → UnlawfulPlace → Type 0) : ℕ → List UnlawfulPlace → Type 0 where
  -- at first there is none
  of_none : OneForEach lawful unlawful 0 []
  -- the next is lawful
  next_lawful : (n : ℕ) (places : List UnlawfulPlace) → OneForEach lawful unlawful n places → lawful n
      → OneForEach lawful unlawful (n + 1) places
  -- or it isn't, at this place
  next_unlawful : (n : ℕ) (places : List UnlawfulPlace) (place : UnlawfulPlace) → OneForEach lawful unlawful n places
      → IsOnly (unlawful n) place → OneForEach lawful unlawful (n + 1) (places ++ place ∷ [])

-- the places that are reported for the ports
abbrev pub AreToldOfPorts : IndexedTrace → List UnlawfulPlace → Type 0
AreToldOfPorts trace places = OneForEach (IsLawfulAt trace) (IsUnlawfulAt trace) (length trace.owners.items) places

-- the places that are reported for the routes
abbrev pub AreToldOfRoutes : IndexedTrace → List UnlawfulPlace → Type 0
AreToldOfRoutes trace places = OneForEach (IsDeliveredAt trace) (IsUnlawfulOn trace) (length trace.joined.items) places

-- the place that is reported for circles: one of a circle, if there is any and all routes are lawful
abbrev pub IsToldOfCircles : IndexedTrace → Option UnlawfulPlace → Type 0
IsToldOfCircles trace None = Delivered trace → NoCircle trace
IsToldOfCircles trace (Some place) = Delivered trace × IsCirclePlace trace place

-- the places that are reported for routes and circles
pub record AreToldOfOrder (trace : IndexedTrace) (places : List UnlawfulPlace) : Type 0 where
  pub routes : List UnlawfulPlace
  pub circle : Option UnlawfulPlace
  pub of_routes : AreToldOfRoutes trace routes
  pub of_circles : IsToldOfCircles trace circle
  pub are : places ≡ routes ++ option_to_list circle

-- **all places that are reported for a trace**, in any order: for each port and each route that isn't lawful, the one
-- place that can be reported for it; and if all routes are lawful, one place of a circle, if there is any
pub record AreToldOf (trace : IndexedTrace) (places : List UnlawfulPlace) : Type 0 where
  pub ports : List UnlawfulPlace
  pub order : List UnlawfulPlace
  pub of_ports : AreToldOfPorts trace ports
  pub of_order : AreToldOfOrder trace order
  pub are : IsPermutation (ports ++ order) places
