-- What makes a trace lawful.
use Rattle.std.specs.Prelude.{◌⊎◌, List}
use Rattle.std.specs.List.Sorted.{IsNonDecreasingBy}
use Rattle.tp_judge.specs.declared.place.UnlawfulPlace.{UnlawfulPlace}
use Rattle.tp_judge.specs.declared.trace.IndexedTrace.{IndexedTrace}
use Rattle.tp_judge.specs.Before.{NoCircle}
use Rattle.tp_judge.specs.Circles.{IsCirclePlace}
use Rattle.tp_judge.specs.Delivered.{Delivered, IsRoutePlace}
use Rattle.tp_judge.specs.Lawful.{IsPortPlace, LawfulPorts}

-- all routes are lawful, and no line happens before itself
pub record IsOrderly (trace : IndexedTrace) : Type 0 where
  pub delivered : Delivered trace
  pub no_circle : NoCircle trace

-- **a lawful trace**: by the rules of ports, of delivery and of circles
pub record IsLawful (trace : IndexedTrace) : Type 0 where
  pub ports : LawfulPorts trace
  pub orderly : IsOrderly trace

-- a place where the rule on delivery or the one on circles is broken
abbrev pub IsOrderPlace : IndexedTrace → UnlawfulPlace → Type 0
IsOrderPlace trace place = IsRoutePlace trace place ⊎ IsCirclePlace trace place

-- the places are in the order of their lines
abbrev pub AreInOrder : List UnlawfulPlace → Type 0
AreInOrder places = IsNonDecreasingBy (λ place. place.line) places

-- a place where a rule is broken
abbrev pub IsUnlawfulPlace : IndexedTrace → UnlawfulPlace → Type 0
IsUnlawfulPlace trace place = IsPortPlace trace place ⊎ IsOrderPlace trace place
