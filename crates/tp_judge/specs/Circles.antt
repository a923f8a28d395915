-- Where a trace has a circle.
use Rattle.std.specs.Prelude.{◌≡◌, ℕ, List}
use Rattle.tp_judge.specs.Circle.{IsCircle}
use Rattle.tp_judge.specs.declared.place.Rule.TheVariants as rule
use Rattle.tp_judge.specs.declared.place.UnlawfulPlace.{UnlawfulPlace}
use Rattle.tp_judge.specs.declared.trace.IndexedTrace.{IndexedTrace}
use Rattle.tp_judge.specs.Before.{LineHappensBefore}
use Rattle.tp_judge.specs.Demands.{demands_of}
use Rattle.tp_judge.specs.OneRun.{IsLeastOf}

-- a line that happens before itself: the first in the text of a circle, on which each line comes directly before the
-- next, either as the one before it in its section or as the sending of its arrival
pub record IsCirclePlace (trace : IndexedTrace) (place : UnlawfulPlace) : Type 0 where
  pub rule_is : place.rule ≡ rule.Circle
  pub happens : LineHappensBefore trace place.line place.line
  pub circle : List ℕ
  pub is_circle : IsCircle (demands_of trace) circle
  pub first : IsLeastOf circle place.line
